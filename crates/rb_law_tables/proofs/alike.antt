-- Positions count for nothing in whether classes are typed.
pub mod Checks
pub mod Names
pub mod Members
pub mod Exprs
pub mod Stmts
pub mod Classes
