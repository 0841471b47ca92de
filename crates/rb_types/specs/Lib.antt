pub mod Checks
pub mod Given
pub mod Steps
pub mod Views
