-- The lemmas on texts of services with their tables.
pub mod alike
pub mod tables
pub mod printed
pub mod ReadBack
