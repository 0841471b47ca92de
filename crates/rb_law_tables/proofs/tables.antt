-- Tables that fit their service, as objects of a text.
pub mod Stored
pub mod Suits
pub mod Written
pub mod Checked
