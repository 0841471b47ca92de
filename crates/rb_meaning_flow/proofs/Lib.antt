-- The lemmas on the definitions.
pub mod Rows
