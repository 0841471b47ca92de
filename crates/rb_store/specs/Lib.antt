-- What the contracts of this crate cite beside the definitions.
pub mod Views
pub mod Written
pub mod Referred
pub mod Outcomes
