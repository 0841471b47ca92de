-- What reading and writing fields stands on.
pub mod Utf8
pub mod Equations
pub mod Tags
pub mod Kept
pub mod Grouping
