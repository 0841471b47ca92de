-- The lines of a text around places.
use Rattle.std.specs.Prelude.{ℕ, List, ◌++◌, take, drop}
use Rattle.std.specs.List.{after_last, before_first}
use Rattle.rb_meaning.specs.Place.{is_line_feed}

-- what stands before a place on its line; a place behind the end is the end
abbrev pub before_place : List ℕ → ℕ → List ℕ
before_place text at = after_last is_line_feed (take at text)

-- the line of a place: the bytes between the line feeds around it
abbrev pub line_at : List ℕ → ℕ → List ℕ
line_at text at = before_place text at ++ before_first is_line_feed (drop at text)
