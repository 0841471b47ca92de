pub mod Appends
pub mod Texts
pub mod Views
