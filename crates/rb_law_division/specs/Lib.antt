-- The laws of the division.
pub mod Sendable
pub mod Fitting
pub mod Faults
