pub mod Lines
pub mod Near
pub mod Colours
pub mod Headings
pub mod Positions
pub mod Quotes
pub mod Appends
