-- What the local code of a batch does where it stands and where it is replayed, and the laws of it.
pub mod Shown
pub mod Wanted
pub mod Parted
pub mod Placed
pub mod Meets
pub mod Local
pub mod Admitted
pub mod Marked
