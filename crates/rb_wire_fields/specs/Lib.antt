-- How answers and buffers stand to the fields.
pub mod Endings
pub mod Stops
pub mod Items
pub mod Buffers
