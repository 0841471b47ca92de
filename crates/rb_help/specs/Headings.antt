-- The lines that editors jump by.
use Rattle.std.specs.Prelude.{◌≡◌, ℕ, ◌+◌, ◌*◌, List, [], ◌∷◌, ◌++◌, Bool, not, Some, codes, count_by, slice_get, take}
use Rattle.std.specs.Fmt.{decimal}
use Rattle.std.specs.Int.{is_in_range}
use Rattle.rb_meaning.specs.Place.{line_of}
use Rattle.rb_pieces.specs.Characters.{shown_text}
use Rattle.rb_help.specs.Lines.{before_place}

-- A text and the name of its file.
pub record NamedText : Type 0 where
  pub name : List ℕ
  pub text : List ℕ

abbrev pub named : List ℕ → List ℕ → NamedText
named name text = record { name = name; text = text }

-- in UTF-8 the bytes from 80 to BF, hexadecimal, go on with a character, and each other byte begins one
abbrev pub begins_character : ℕ → Bool
begins_character b = not (is_in_range 0x80 0xBF b)

-- the column of a place in characters, from 1: one more than those that begin before it on its line
abbrev pub column_in_characters : List ℕ → ℕ → ℕ
column_in_characters text at = 1 + count_by begins_character (before_place text at)

-- a file's name, the line and the column of a place, each with a colon behind it; a text whose file has no name has no heading
abbrev pub heading_in : List ℕ → List ℕ → ℕ → List ℕ
heading_in [] text at = []
heading_in (b ∷ bs) text at =
    shown_text (b ∷ bs) ++ codes ":" ++ decimal (line_of text at) ++ codes ":" ++ decimal (column_in_characters text at) ++ codes ":\n"

abbrev pub heading : NamedText → ℕ → List ℕ
heading source at = heading_in source.name source.text at

-- of each multiple of 64 it is counted how many characters begin before it
abbrev pub AreCounted : List ℕ → List ℕ → Type 0
AreCounted text counted = (k : ℕ) (count : ℕ) → slice_get counted k ≡ Some count → count ≡ count_by begins_character (take (k * 64) text)
