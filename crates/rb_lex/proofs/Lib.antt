-- The lemmas of the lexer.
pub mod Runs
pub mod Endings
pub mod Lookup
pub mod InTables
pub mod Slices
pub mod Ended
pub mod Found
pub mod Turns
pub mod Unique
pub mod Places
pub mod Total
