-- How the texts of trees are made of the texts of their parts.
pub mod Pieces
pub mod Words
pub mod Types
pub mod Exprs
pub mod Stmts
