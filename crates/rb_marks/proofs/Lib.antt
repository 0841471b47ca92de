-- The lemmas on marks.
mod Positions
mod Scopes
mod Parts
mod Fronts
mod Rules
mod Joined
mod Agree
mod AgreePlaces
mod Outer
mod Maps
pub mod Counts
pub mod Placed
mod Law
mod InScript
