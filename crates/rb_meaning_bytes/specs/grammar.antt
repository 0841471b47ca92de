-- The grammar of programs and services.
pub mod Values
pub mod Symbols
pub mod Productions
pub mod Derives
pub mod Limits
pub mod Refusals
pub mod Sources
