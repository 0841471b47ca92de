-- Places of a text, and those that are noted of it.
use Rattle.std.specs.Prelude.{◌≡◌, ◌≤◌, ◌+◌, ◌*◌, ℕ, List, Some, slice_get}
use Rattle.rb_meaning.specs.Place.{column_of, line_of}
use Rattle.rb_places.specs.declared.places.Place.{Place}

-- This is the line and the column of an offset; neither is more than one past it.
pub record IsPlace (text : List ℕ) (at : ℕ) (place : Place) : Type 0 where
  pub line_so : place.line ≡ line_of text at
  pub column_so : place.column ≡ column_of text at
  pub line_bound : place.line ≤ at + 1
  pub column_bound : place.column ≤ at + 1

-- whatever is noted is the place of its multiple of the stride
abbrev pub AreNoted : List ℕ → List Place → Type 0
AreNoted text noted = (k : ℕ) (place : Place) → slice_get noted k ≡ Some place → IsPlace text (k * 64) place
