-- Words of the contracts, each after those that it names.
pub mod Views
pub mod Uses
pub mod Cutting
pub mod Drafts
pub mod Drafting
pub mod Divided
pub mod Numbers
pub mod Seen
