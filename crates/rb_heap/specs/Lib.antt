pub mod Additions
pub mod Seen
pub mod Views
pub mod Writes
