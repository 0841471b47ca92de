-- The definitions of the lexer, beside those of tokens.
pub mod Classes
pub mod Ends
pub mod Heads
pub mod Laws
