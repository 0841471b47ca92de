pub mod Differ
pub mod Fresh
pub mod Grown
pub mod Placed
