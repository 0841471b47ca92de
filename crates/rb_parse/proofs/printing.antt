-- Reading what is printed.
pub mod Spots
pub mod Values
pub mod derived
pub mod lexed
pub mod within
