-- The definitions of marks and admission, each after those that it names.
pub mod Facts
pub mod Scopes
pub mod Portable
pub mod Sites
pub mod Marks
pub mod Forms
pub mod Outermost
pub mod Chains
pub mod Flow
pub mod Refusals
pub mod Programs
