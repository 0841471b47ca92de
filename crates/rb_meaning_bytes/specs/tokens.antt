-- Tokens: what a text is read as before any grammar. `Texts` says it whole.
pub mod Bytes
pub mod Tables
pub mod Values
pub mod Forms
pub mod Begins
pub mod Faults
pub mod Lists
pub mod Texts
pub mod Lexes
