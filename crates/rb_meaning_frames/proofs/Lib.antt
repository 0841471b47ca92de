pub mod Headers
pub mod Fronts
pub mod Divided
pub mod Reading
pub mod InOrder
