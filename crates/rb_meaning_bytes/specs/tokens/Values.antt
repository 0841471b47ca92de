-- The values that numbers and text literals stand for.
use Rattle.std.specs.Prelude.{ℕ, ◌+◌, ◌-◌, ◌*◌, ◌==◌, Bool, true, false, cond, List, [], ◌∷◌, fold, ℤ, pos, negsuc}
use Rattle.rb_meaning_bytes.specs.tokens.Bytes.{line_feed, quote, backslash, letter_n}

-- The value of digits, in decimal.
abbrev pub number_value : List ℕ → ℕ
number_value digits = fold (λ value digit. 10 * value + (digit - 48)) 0 digits

-- The Int of a number: 9223372036854775808, which stands behind a minus, is the least Int, since arithmetic wraps.
abbrev pub int_of : ℕ → ℤ
int_of value = cond (value == 9223372036854775808) (negsuc 9223372036854775807) (pos value)

-- What an escape stands for, by the byte behind its backslash: n is the line feed, and the others are themselves.
unfoldable pub escape_value : ℕ → ℕ
escape_value b = cond (b == letter_n) line_feed b

-- The value of the bytes behind the first quote of a text literal, up to the quote that closes it.
-- The flag says that a backslash stands before the byte.
abbrev pub unescaped : Bool → List ℕ → List ℕ
unescaped behind [] = []
unescaped true (b ∷ bs) = escape_value b ∷ unescaped false bs
unescaped false (b ∷ bs) = cond (b == quote) [] (cond (b == backslash) (unescaped true bs) (b ∷ unescaped false bs))

-- The value of a text literal, given with its quotes.
abbrev pub text_value : List ℕ → List ℕ
text_value [] = []
text_value (b ∷ bs) = unescaped false bs
