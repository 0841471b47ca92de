-- Places of a text that were noted.
pub mod Noted
