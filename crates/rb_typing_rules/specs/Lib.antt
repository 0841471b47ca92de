-- The rules of typing by cases, and the first violation by cases.
pub mod Agree
pub mod BrokenCode
pub mod BrokenPrograms
pub mod BrokenTypes
pub mod Order
pub mod Programs
pub mod Rules
