-- The tokens of a printed program derive it, but for its positions.
pub mod Stands
pub mod Made
pub mod Shapes
pub mod Types
pub mod Literals
pub mod Places
pub mod Exprs
pub mod Stmts
pub mod Declarations
pub mod Whole
