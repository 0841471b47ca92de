-- What the mirror of each form of a tree is: one equation a variant, in a ruleset for each tree; and where it stands.
pub mod Types
pub mod Exprs
pub mod Positions
pub mod Stmts
pub mod Literals
pub mod SExprs
pub mod Steps
pub mod Parts
pub mod Nodes
