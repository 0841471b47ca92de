-- The lemmas on reading and writing.
pub mod Equations
pub mod Stages
pub mod Pooled
pub mod Inputs
pub mod Messages
pub mod Placing
pub mod Collected
pub mod Kept
pub mod Payloads
pub mod Guided
pub mod Rules
