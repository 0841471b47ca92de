-- What the grammar derives within the limits is lawful.
pub mod Utf8
pub mod Sizes
pub mod Numbers
pub mod Forms
pub mod Positions
pub mod Apart
pub mod Whole
pub mod Services
pub mod Objects
