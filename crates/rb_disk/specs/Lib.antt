pub mod Images
pub mod MemoryDisks
pub mod Storing
pub mod MemoryStores
