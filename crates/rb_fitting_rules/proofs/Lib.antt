-- Lemmas on the rules of fitting.
pub mod Clean
pub mod Decided
pub mod Judged
pub mod Missed
pub mod Steps
pub mod Walked
