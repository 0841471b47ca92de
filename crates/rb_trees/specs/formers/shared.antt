-- Shared values in recursive types.
pub mod Shared
