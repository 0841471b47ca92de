-- The mirror: each tree of this crate once more, as plain data with list types of its own, and the one
-- function from the tree to it. Every definition of the product is written over the mirror, by cases.
-- This is trusted text: it says what a tree is, one line a variant, and nothing else.
pub mod Types
pub mod Code
pub mod Declarations
pub mod Services
pub mod Scripts
pub mod Remainders
pub mod Forests
