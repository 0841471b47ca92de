-- The lemmas on the definitions.
pub mod TypeForms
pub mod LiteralForms
pub mod Noted
pub mod Standing
