pub mod Frames
pub mod Streams
pub mod Laws
pub mod Served
pub mod Reading
pub mod Histories
