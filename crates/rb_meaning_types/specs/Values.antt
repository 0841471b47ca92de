-- The bounds of values.
use Rattle.std.specs.Prelude.{ℕ, ◌≤◌, ℤ, List, length, FitsSigned}
use Rattle.std.specs.Int.{w64}
use Rattle.std.specs.Str.{IsUtf8}
use Rattle.rb_trees.specs.Limits.{longest_text, longest_list}

-- An Int is a 64-bit two's complement number.
abbrev pub IsInt : ℤ → Type 0
IsInt number = FitsSigned w64 number

-- A Text is UTF-8, no longer than texts may be.
abbrev pub IsText : List ℕ → Type 0
IsText text = IsUtf8 text × (length text ≤ longest_text)

-- A List has no more items than lists may have.
abbrev pub IsList : {A : Type 0} → List A → Type 0
IsList items = length items ≤ longest_list
