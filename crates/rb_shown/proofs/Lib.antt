-- The lemmas on texts that are added piece by piece.
pub mod Fields
pub mod Pieces
pub mod ValueForms
pub mod Offsets
pub mod ViewForms
