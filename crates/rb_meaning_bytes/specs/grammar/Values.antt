-- What names, numbers and text literals of the grammar stand for, by the slices of their tokens.
use Rattle.std.specs.Prelude.{ℕ, min, List, ℤ, neg_ℤ}
use Rattle.std.specs.Int.{int_wrap, w64}
use Rattle.rb_trees.specs.declared.tokens.Token.{Token}
use Rattle.rb_meaning_bytes.specs.tokens.Values.{number_value, int_of, text_value}
use Rattle.rb_meaning_bytes.specs.tokens.Lists as tokens

-- the bytes of a token
abbrev pub slice : List ℕ → Token → List ℕ
slice source t = tokens.slice source t.start t.end

-- the name that a token is
abbrev pub name_of : List ℕ → Token → List ℕ
name_of source t = slice source t

-- The natural that a token stands for. No number's value is above 9223372036854775808; a greater one would count as that.
abbrev pub count_of : List ℕ → Token → ℕ
count_of source t = min (number_value (slice source t)) 9223372036854775808

-- the Int that a token stands for
abbrev pub number_of : List ℕ → Token → ℤ
number_of source t = int_of (count_of source t)

-- the Int that a token behind a minus stands for in a literal; it wraps, as in an expression
abbrev pub minus_of : List ℕ → Token → ℤ
minus_of source t = int_wrap w64 (neg_ℤ (number_of source t))

-- the Text that a token stands for
abbrev pub text_of : List ℕ → Token → List ℕ
text_of source t = text_value (slice source t)
