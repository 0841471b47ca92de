-- The lemmas on which scripts are valid, and on how many bytes they have.
pub mod Scopes
pub mod Refusals
pub mod Sizes
pub mod Blocks
