pub mod Appended
pub mod Counting
pub mod Nearby
pub mod Painting
pub mod Parts
pub mod Quoting
pub mod Ranges
