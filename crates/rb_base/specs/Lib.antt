pub mod Counts
pub mod Devices
pub mod Sinks
pub mod Sources
pub mod Directories
pub mod Links
pub mod Listening
pub mod MemoryListens
