pub mod Cut
pub mod Found
pub mod Pieces
pub mod LineTexts
pub mod Written
