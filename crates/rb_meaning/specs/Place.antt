-- Places in a text.
use Rattle.std.specs.Prelude.{ℕ, ◌+◌, ◌==◌, List, Bool, take, length, count_by}
use Rattle.std.specs.List.{after_last}

abbrev pub is_line_feed : ℕ → Bool
is_line_feed b = b == 10

-- the line of an offset, from 1: one more than the line feeds before it
abbrev pub line_of : List ℕ → ℕ → ℕ
line_of text at = 1 + count_by is_line_feed (take at text)

-- the column of an offset in bytes, from 1: one more than the bytes since the last line feed before it
abbrev pub column_of : List ℕ → ℕ → ℕ
column_of text at = 1 + length (after_last is_line_feed (take at text))
