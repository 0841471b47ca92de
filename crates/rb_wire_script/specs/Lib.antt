-- What is stated of scripts as bytes.
pub mod Stops
pub mod Parts
pub mod Guesses
pub mod Places
pub mod Spelled
pub mod Verdicts
