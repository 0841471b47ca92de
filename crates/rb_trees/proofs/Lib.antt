-- The lemmas on trees and their texts.
pub mod mirror
pub mod printed
pub mod OutcomeWords
pub mod rules
