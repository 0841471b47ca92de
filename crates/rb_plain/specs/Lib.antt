-- Words of the contracts, each after those that it names.
pub mod BatchRuns
pub mod Batches
pub mod Entered
pub mod Lists
pub mod MainRuns
pub mod Parts
pub mod Remote
pub mod Staged
pub mod Unsplit
pub mod Walks
pub mod Worlds
