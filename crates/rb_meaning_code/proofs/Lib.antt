-- The lemmas on runs of class code.
pub mod Alike
pub mod Heaps
pub mod Values
pub mod Effects
pub mod Within
pub mod Orders
pub mod Runs
pub mod OfCode
pub mod Led
