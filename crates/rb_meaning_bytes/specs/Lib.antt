pub mod Fits
pub mod formats
pub mod grammar
pub mod tokens
