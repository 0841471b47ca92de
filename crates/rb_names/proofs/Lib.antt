-- The lemmas on lists of names.
pub mod Guided
