pub mod Views
pub mod Passes
pub mod Walks
pub mod Notes
pub mod Laws
