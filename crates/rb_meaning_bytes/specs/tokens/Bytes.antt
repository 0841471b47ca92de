-- Bytes by name, and their classes. A byte is its number; one above 127 stands in comments and text literals alone.
use Rattle.std.specs.Prelude.{ℕ, Bool, not, ◌||◌, ◌==◌, List, [], ◌∷◌, false}
unfoldable pub use Rattle.rb_trees.specs.Spelling.{is_letter, is_digit, is_word_byte}

abbrev pub tab : ℕ
tab = 9

abbrev pub line_feed : ℕ
line_feed = 10

abbrev pub carriage_return : ℕ
carriage_return = 13

abbrev pub space : ℕ
space = 32

abbrev pub quote : ℕ
quote = 34

abbrev pub slash : ℕ
slash = 47

abbrev pub backslash : ℕ
backslash = 92

-- the letter n, which makes a line feed behind a backslash
abbrev pub letter_n : ℕ
letter_n = 110

-- Space, tab, carriage return and line feed separate tokens.
unfoldable pub is_separator : ℕ → Bool
is_separator b = (b == space) || ((b == tab) || ((b == carriage_return) || (b == line_feed)))

-- Not the line feed: a comment goes on.
unfoldable pub is_in_line : ℕ → Bool
is_in_line b = not (b == line_feed)

-- Within a text literal: not a quote, a line feed or a backslash. The byte stands for itself.
unfoldable pub is_plain : ℕ → Bool
is_plain b = not ((b == quote) || ((b == line_feed) || (b == backslash)))

-- n, the quote and the backslash may follow a backslash within a text literal.
unfoldable pub is_escaped : ℕ → Bool
is_escaped b = (b == letter_n) || ((b == quote) || (b == backslash))

-- Whether the bytes that follow a backslash make an escape with it.
abbrev pub makes_escape : List ℕ → Bool
makes_escape [] = false
makes_escape (b ∷ bs) = is_escaped b
