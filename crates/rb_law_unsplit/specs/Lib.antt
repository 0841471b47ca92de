-- What admitted programs keep in the unsplit meaning, and the laws of it.
pub mod Noted
pub mod CarriedLoops
pub mod Batches
pub mod Kept
