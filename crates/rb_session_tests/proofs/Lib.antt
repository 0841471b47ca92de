-- Lemmas on the changes that tests make.
pub mod Bounded
