-- How bytes of a text are shown.
use Rattle.std.specs.Prelude.{ℕ, ◌==◌, List, Bool, cond, map, nat_lt, ◌||◌}
use Rattle.std.specs.Int.{is_in_range}
use Rattle.std.specs.Str.{chars, encode_utf8_all}
use Rattle.std.specs.Str.Lossy.{utf8_lossy}

-- characters that a terminal obeys rather than shows: controls but for the tab, and those that break or turn a line
abbrev pub is_hidden : ℕ → Bool
is_hidden c =
    nat_lt c 9 || is_in_range 10 31 c || is_in_range 127 159 c || is_in_range 0x2028 0x202E c || is_in_range 0x2066 0x2069 c

-- a carriage return is a blank and shown as a space, and a hidden character as U+FFFD
abbrev pub shown_char : ℕ → ℕ
shown_char c = cond (c == 13) 32 (cond (is_hidden c) 0xFFFD c)

-- the characters that the bytes spell as they are shown; bytes that spell none are shown as U+FFFD too
abbrev pub shown_text : List ℕ → List ℕ
shown_text bytes = encode_utf8_all (map shown_char (chars (utf8_lossy bytes)))
