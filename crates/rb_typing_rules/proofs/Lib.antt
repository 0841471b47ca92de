-- The proofs in their order: the rules by cases, then the first violation by cases.
pub mod Steps
pub mod Groups
pub mod Exprs
pub mod Stmts
pub mod Members
pub mod Decls
pub mod Wholes
pub mod Stops
pub mod Parts
pub mod BrokenTypes
pub mod Misfits
pub mod BrokenExprs
pub mod BrokenStmts
pub mod BrokenPrograms
pub mod Outcomes
