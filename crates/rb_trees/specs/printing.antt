-- How programs are printed: declarations in order, one member or statement a line, two spaces for each open block.
pub mod Pieces
pub mod Words
pub mod Types
pub mod Exprs
pub mod Stmts
pub mod Programs
pub mod Unplaced
