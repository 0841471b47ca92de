-- The division of a batch and the replay of its remainder, each after what it names.
pub mod Refs
pub mod Inputs
pub mod Cuts
pub mod Numbers
pub mod Steps
pub mod Parts
pub mod Division
pub mod Replay
pub mod Client
