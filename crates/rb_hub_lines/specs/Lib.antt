pub mod Cuts
pub mod Lines
pub mod Reading
pub mod Shown
