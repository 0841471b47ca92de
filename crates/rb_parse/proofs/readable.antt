-- What reading gives is readable.
pub mod Trees
pub mod States
pub mod Heads
pub mod Places
pub mod Tokens
pub mod Steps
pub mod Invariants
pub mod Deepens
pub mod Types
pub mod Expressions
pub mod Statements
pub mod Programs
pub mod Codes
pub mod Whole
