-- What a payload comes to by a format: the value that it spells, or its first violation.
use Rattle.std.specs.Prelude.{ℕ, List, Option, None, Some, Result, Ok, Err}
use Rattle.rb_meaning_bytes.specs.formats.Formats.{Format, Spells, FirstViolation}
use Rattle.rb_wire_forest.specs.declared.decoding.ForestStop.{ForestStop}
use Rattle.rb_wire_forest.specs.declared.decoding.ForestStop.TheVariants as stops

-- a first violation: its number and its place
abbrev pub Violation : Type 0
Violation = ℕ × ℕ

pub data Means {A : Type 0} (F : Format A) (payload : List ℕ) : Result A Violation → Type 0 where
  spelled : (x : A) → Spells F payload x → Means F payload (Ok x)
  violated : (v : Violation) → FirstViolation F payload v.0 v.1 → Means F payload (Err v)

-- the violation that an answer tells
abbrev pub violation : ForestStop → Option Violation
violation (stops.Refused number at) = Some (number, at)
violation stops.Memory = None
