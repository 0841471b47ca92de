-- The lemmas on texts that are laid out.
pub mod Found
pub mod LinesRead
pub mod ProgramLaws
pub mod ServiceLaws
