-- The faults that stand at the beginning of a text.
use Rattle.std.specs.Prelude.{◌≡◌, ℕ, ◌+◌, ◌<◌, ◌≤◌, Bool, true, false, cond, List, [], ◌∷◌, ◌++◌, length, take}
use Rattle.rb_trees.specs.declared.tokens.TokenKind.{TokenKind}
use Rattle.rb_trees.specs.declared.tokens.TokenKind.TheVariants as kinds
use Rattle.rb_trees.specs.declared.reading.LexError.{LexError}
use Rattle.rb_trees.specs.declared.reading.LexError.TheVariants.{BadByte, OpenText, NumberTooLarge, TooLong}
use Rattle.rb_trees.specs.Limits.{longest_text}
use Rattle.rb_meaning_bytes.specs.tokens.Bytes.{is_plain, is_escaped, makes_escape, line_feed, quote, backslash}
use Rattle.rb_meaning_bytes.specs.tokens.Values.{number_value, text_value}
use Rattle.rb_meaning_bytes.specs.tokens.Forms.{Body}
use Rattle.rb_meaning_bytes.specs.tokens.Begins.{Begins, Skips}

-- The greatest value of a number, which is one more behind a minus.
abbrev pub greatest_number : Bool → ℕ
greatest_number minus = cond minus 9223372036854775808 9223372036854775807

-- The greatest number of bytes of a text literal's value.
abbrev pub longest_value : ℕ
longest_value = longest_text

-- A slice of the kind is within the limits of values. The flag says that the token before it is a minus.
abbrev pub WithinLimits : Bool → TokenKind → List ℕ → Type 0
WithinLimits minus kinds.Number slice = number_value slice ≤ greatest_number minus
WithinLimits minus kinds.TextLit slice = length (text_value slice) ≤ longest_value
WithinLimits minus kinds.Name slice = Unit {0}
WithinLimits minus (kinds.Keyword number) slice = Unit {0}
WithinLimits minus (kinds.Sign number) slice = Unit {0}

-- A text literal goes on from one text to the rest of it, where escapes may be bad:
-- a backslash that makes no escape stands alone, and the byte behind it is read on its own.
pub data GoesOn : List ℕ → List ℕ → Type 0 where
  here : {text : List ℕ} → GoesOn text text
  plain : {text rest : List ℕ} (b : ℕ) → is_plain b ≡ true → GoesOn text rest → GoesOn (b ∷ text) rest
  escape : {text rest : List ℕ} (b : ℕ) → is_escaped b ≡ true → GoesOn text rest → GoesOn (backslash ∷ b ∷ text) rest
  bad : {text rest : List ℕ} → makes_escape text ≡ false → GoesOn text rest → GoesOn (backslash ∷ text) rest

-- The line ends here: by a line feed, or with the text.
abbrev pub LineEnds : List ℕ → Type 0
LineEnds [] = Unit {0}
LineEnds (b ∷ bs) = b ≡ line_feed

-- The text, which begins at the offset `at` of the whole, begins with this fault.
-- The flag says that the token before it is a minus.
pub data Faults : Bool → ℕ → List ℕ → LexError → Type 0 where
  -- a number above the greatest, at its first byte
  number_too_large : {minus : Bool} {at : ℕ} {text : List ℕ} (size : ℕ) → Begins text kinds.Number size
      → greatest_number minus < number_value (take size text) → Faults minus at text (NumberTooLarge at)
  -- a text literal with too long a value, at its first byte
  text_too_long : {minus : Bool} {at : ℕ} {text : List ℕ} (size : ℕ) → Begins text kinds.TextLit size
      → longest_value < length (text_value (take size text)) → Faults minus at text (TooLong at)
  -- a text literal whose line ends before a quote closes it, at its first byte
  open_text : {minus : Bool} {at : ℕ} {text : List ℕ} (rest : List ℕ) → GoesOn text rest → LineEnds rest
      → Faults minus at (quote ∷ text) (OpenText at)
  -- the first backslash that makes no escape, in a text literal that a quote closes
  bad_escape : {minus : Bool} {at : ℕ} (body more rest : List ℕ) → Body body → makes_escape more ≡ false → GoesOn more (quote ∷ rest)
      → Faults minus at (quote ∷ (body ++ backslash ∷ more)) (BadByte (at + (1 + length body)))
  -- a byte that is no quote and begins no token, separator or comment
  bad_byte : {minus : Bool} {at : ℕ} (b : ℕ) (text : List ℕ) → ¬ (b ≡ quote) → ((size : ℕ) → ¬ Skips (b ∷ text) size)
      → ((kind : TokenKind) (size : ℕ) → ¬ Begins (b ∷ text) kind size) → Faults minus at (b ∷ text) (BadByte at)
