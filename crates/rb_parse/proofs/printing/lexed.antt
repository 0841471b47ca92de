-- The tokens of a printed text are those of its pieces.
pub mod Slices
pub mod Good
pub mod Words
pub mod Leads
pub mod Exprs
pub mod Stmts
pub mod Programs
pub mod Whole
