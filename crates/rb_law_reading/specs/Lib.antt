-- The law of the places of a program that is read.
pub mod Places
