-- A law of reading: the positions of a program.
use Rattle.std.specs.Prelude.{ℕ, List, Ok}
use Rattle.rb_trees.specs.mirror.Declarations.{Program}
use Rattle.rb_meaning_bytes.specs.grammar.Sources.{ReadSource}
use Rattle.rb_law_division.specs.Sendable.{HasPlaces}

-- In a program that a source is read as each position has 32 bits.
abbrev pub ReadProgramsHavePlaces : Type 0
ReadProgramsHavePlaces = (source : List ℕ) (p : Program) → ReadSource source (Ok p) → HasPlaces p
