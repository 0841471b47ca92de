-- The text of a service with its table as pieces: its tokens, what they derive, and that they break no limit.
pub mod Pieces
pub mod Prints
pub mod Texts
pub mod Ints
pub mod Lexed
pub mod ClassLines
pub mod ClassTrees
pub mod ObjectTrees
pub mod Within
pub mod Whole
