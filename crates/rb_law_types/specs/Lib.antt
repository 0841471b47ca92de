-- What typed code keeps, and the laws of it.
pub mod Kept
pub mod Formed
pub mod Own
pub mod Ends
pub mod Asked
pub mod Noted
pub mod Admitted
pub mod Batches
pub mod Operators
pub mod Code
pub mod Around
pub mod Far
pub mod Remote
pub mod Scripts
pub mod Nodes
pub mod NodeFaults
