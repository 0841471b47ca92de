-- What a text is in a picture.
pub mod Escapes
