-- What laying out a text promises.
pub mod Formats
pub mod Prints
pub mod Woven
