-- The lemmas on places.
mod Starts
mod Whole
