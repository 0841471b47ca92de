-- The tokens of a printed program break no limit of nesting.
pub mod States
pub mod Fits
pub mod Types
pub mod Exprs
pub mod Lines
pub mod Stmts
pub mod Programs
