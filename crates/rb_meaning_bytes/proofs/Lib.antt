-- The lemmas on the definitions of bytes.
pub mod formats
