pub mod Differ
pub mod Places
