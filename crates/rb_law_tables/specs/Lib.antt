-- The law of printed tables.
pub mod Printed
