-- How answers stand to the formats, and what forests and cursors are seen as.
pub mod Payloads
pub mod Versions
pub mod Buffers
pub mod Refused
pub mod Levels
pub mod Walks
pub mod Misfits
pub mod Passed
pub mod Opens
pub mod Fronts
pub mod Opened
pub mod CursorSteps
pub mod ForestWalks
