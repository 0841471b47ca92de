-- How the types of this crate may hold types that hold them.
pub mod boxes
pub mod sequence
pub mod shared
