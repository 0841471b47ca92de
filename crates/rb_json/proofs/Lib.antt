-- What reading and writing the form stands on.
pub mod Inputs
pub mod Back
pub mod Looks
pub mod Worded
pub mod Blocks
pub mod Whole
pub mod Arrays
pub mod Written
pub mod Formed
pub mod Shallow
pub mod Replied
