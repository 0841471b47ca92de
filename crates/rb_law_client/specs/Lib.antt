-- The laws of whole batches and of whole programs.
pub mod Below
pub mod Dividing
pub mod Clients
pub mod Reached
pub mod Answered
pub mod ScriptFaults
