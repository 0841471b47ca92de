-- Laws of the division of a batch.
pub mod Remote
