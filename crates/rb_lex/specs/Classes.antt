-- The class of a byte, as the code tells it.
use Rattle.std.specs.Prelude.{ℕ, cond, ◌==◌}
use Rattle.rb_meaning_bytes.specs.tokens.Bytes.{is_separator, is_letter, is_digit}
use Rattle.rb_lex.specs.declared.bytes.Class.{Class}
use Rattle.rb_lex.specs.declared.bytes.Class.TheVariants.{Separator, Letter, Digit, Quote, Other}

unfoldable pub class_of : ℕ → Class
class_of b = cond (is_separator b) Separator (cond (is_letter b) Letter (cond (is_digit b) Digit (cond (b == 34) Quote Other)))
