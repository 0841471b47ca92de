-- The fields that messages are made of: what value each has, how it is spelled, and what may be wrong with it.
use Rattle.std.specs.Prelude.{◌≡◌, ◌<◌, ◌≤◌, ◌+◌, ◌^◌, ℕ, ℤ, List, [], ◌∷◌, ◌++◌, Bool, true, false, cond, length, take, drop, nat_lt, ◌&&◌, get_or, Option, Some, None}
use Rattle.std.specs.Int.{w32, w64, to_be_bytes, from_be_bytes, cast_unsigned}
use Rattle.std.specs.Int.RustNames.{FitsSigned}
use Rattle.std.specs.Str.{is_utf8}
use Rattle.rb_trees.specs.Limits.{longest_text}
use Rattle.rb_trees.specs.Spelling.{is_letter, is_word_byte}
use Rattle.rb_meaning_bytes.specs.formats.Shorts.{short, zig, needed, grouped, NoShort}

-- A test of a value: the number with which it is refused, None where it isn't.
abbrev pub Test : Type 0 → Type 0
Test A = A → Option ℕ

-- A list of bytes, which is what a payload is.
abbrev pub IsBytes : List ℕ → Type 0
IsBytes bytes = (i : ℕ) → get_or bytes i 0 < 256

pub data Field : Type 0 where
  -- a byte that passes a test
  Tag : (ℕ → Bool) → Field
  Byte : Field
  -- a number of 32 bits, its greatest byte first
  Number : Field
  -- a signed number of 64 bits, in two's complement
  Wide : Field
  Truth : Field
  -- a length, and so many bytes of UTF-8
  Text : Field
  -- a length, and so many bytes of a name
  Name : Field
  -- a number of 32 bits in groups, which passes a test
  Short : Test ℕ → Field
  -- a signed number of 64 bits in groups
  Zig : Field
  -- a length in groups, which is at most so much, and so many bytes, which pass a test
  Brief : ℕ → Test (List ℕ) → Field
  -- no bytes, where nothing is refused with a number
  Check : Option ℕ → Field
  -- what would be within too much: it has no value
  Deeper : Field

-- the values of a field
abbrev pub Of : Field → Type 0
Of (Tag test) = ℕ
Of Byte = ℕ
Of Number = ℕ
Of Wide = ℤ
Of Truth = Bool
Of Text = List ℕ
Of Name = List ℕ
Of (Short test) = ℕ
Of Zig = ℤ
Of (Brief most test) = List ℕ
Of (Check refused) = Unit {0}
Of Deeper = ⊥

-- how numbers are spelled
unfoldable pub number : ℕ → List ℕ
number n = to_be_bytes w32 n

unfoldable pub wide_number : ℕ → List ℕ
wide_number n = to_be_bytes w64 n

abbrev pub text : List ℕ → List ℕ
text bytes = number (length bytes) ++ bytes

abbrev pub truth : Bool → List ℕ
truth false = 0 ∷ []
truth true = 1 ∷ []

-- a text behind a length in groups
abbrev pub brief : List ℕ → List ℕ
brief bytes = short (length bytes) ++ bytes

-- how a field's value is spelled
abbrev pub spelled : (f : Field) → Of f → List ℕ
spelled (Tag test) c = c ∷ []
spelled Byte n = n ∷ []
spelled Number n = number n
spelled Wide z = wide_number (cast_unsigned w64 z)
spelled Truth b = truth b
spelled Text bytes = text bytes
spelled Name bytes = text bytes
spelled (Short test) n = short n
spelled Zig z = zig z
spelled (Brief most test) bytes = brief bytes
spelled (Check refused) x = []
spelled Deeper x = absurd x

abbrev pub are_word_bytes : List ℕ → Bool
are_word_bytes [] = true
are_word_bytes (c ∷ cs) = is_word_byte c && are_word_bytes cs

-- A name: a letter or _, then letters, digits and _. A keyword is one too.
abbrev pub is_name : List ℕ → Bool
is_name [] = false
is_name (c ∷ cs) = is_letter c && are_word_bytes cs

-- the values that a field may have
abbrev pub Fits : (f : Field) → Of f → Type 0
Fits (Tag test) c = (test c ≡ true) × (c < 256)
Fits Byte n = n < 256
Fits Number n = n < 2 ^ 32
Fits Wide z = FitsSigned w64 z
Fits Truth b = Unit {0}
Fits Text bytes = (length bytes ≤ longest_text) × (is_utf8 bytes ≡ true)
Fits Name bytes = (length bytes < 2 ^ 32) × (is_name bytes ≡ true)
Fits (Short test) n = (n < 2 ^ 32) × (test n ≡ None)
Fits Zig z = FitsSigned w64 z
Fits (Brief most test) bytes = (length bytes < 2 ^ 32) × (length bytes ≤ most) × (test bytes ≡ None)
Fits (Check refused) x = refused ≡ None
Fits Deeper x = Unit {0}

-- ---- what may be wrong

-- A field lacks bytes.
abbrev pub truncated : ℕ
truncated = 1

-- A version, tag, operator, kind or code that isn't in its table.
abbrev pub bad_tag : ℕ
bad_tag = 2

-- A text that is too long or no UTF-8, or a name that is none.
abbrev pub bad_text : ℕ
bad_text = 3

-- A truth value above 1, or a number with a needless group or beyond its bits.
abbrev pub not_canonical : ℕ
not_canonical = 4

-- A block, an expression or a node within too many others.
abbrev pub too_deep : ℕ
too_deep = 5

-- Bytes behind the message.
abbrev pub trailing : ℕ
trailing = 6

-- A text of a pool that equals an earlier one, that is used before an earlier one, or that isn't used.
abbrev pub bad_pool : ℕ
bad_pool = 7

-- Lists with too many items together.
abbrev pub too_many_items : ℕ
too_many_items = 8

-- the length that stands before a text, 0 where it isn't there whole
unfoldable pub announced : List ℕ → ℕ
announced bytes = cond (nat_lt (length bytes) 4) 0 (from_be_bytes w32 (take 4 bytes))

-- the bytes of a text behind its length
unfoldable pub content : List ℕ → List ℕ
content bytes = take (announced bytes) (drop 4 bytes)

-- how many bytes a field takes, as far as they tell
abbrev pub needs : Field → List ℕ → ℕ
needs Number bytes = 4
needs Wide bytes = 8
needs Text bytes = 4 + announced bytes
needs Name bytes = 4 + announced bytes
needs (Short test) bytes = needed bytes
needs Zig bytes = needed bytes
needs (Brief most test) bytes = needed bytes + grouped bytes
needs (Check refused) bytes = 0
needs _ bytes = 1

-- Bytes with this wrong where a field should begin.
pub data Wrong : Field → List ℕ → ℕ → Type 0 where
  no_such_tag : {test : ℕ → Bool} (b : ℕ) (rest : List ℕ) → test b ≡ false → Wrong (Tag test) (b ∷ rest) bad_tag
  no_truth : (b : ℕ) (rest : List ℕ) → 1 < b → Wrong Truth (b ∷ rest) not_canonical
  too_long : (bytes : List ℕ) → longest_text < announced bytes → Wrong Text bytes bad_text
  no_utf8 : (bytes : List ℕ) → 4 + announced bytes ≤ length bytes → is_utf8 (content bytes) ≡ false → Wrong Text bytes bad_text
  no_name : (bytes : List ℕ) → 4 + announced bytes ≤ length bytes → is_name (content bytes) ≡ false → Wrong Name bytes bad_text
  no_short : {test : Test ℕ} (bytes : List ℕ) → NoShort 16 4 bytes → Wrong (Short test) bytes not_canonical
  refused_number : {test : Test ℕ} (n number : ℕ) (rest : List ℕ) → n < 2 ^ 32 → test n ≡ Some number → Wrong (Short test) (short n ++ rest) number
  no_zig : (bytes : List ℕ) → NoShort 2 9 bytes → Wrong Zig bytes not_canonical
  no_length : {most : ℕ} {test : Test (List ℕ)} (bytes : List ℕ) → NoShort 16 4 bytes → Wrong (Brief most test) bytes not_canonical
  too_much : {most : ℕ} {test : Test (List ℕ)} (n : ℕ) (rest : List ℕ) → n < 2 ^ 32 → most < n → Wrong (Brief most test) (short n ++ rest) bad_text
  refused_bytes : {most : ℕ} {test : Test (List ℕ)} (bytes rest : List ℕ) (number : ℕ) → length bytes < 2 ^ 32 → length bytes ≤ most → test bytes ≡ Some number
      → Wrong (Brief most test) (brief bytes ++ rest) number
  refused_here : (number : ℕ) (bytes : List ℕ) → Wrong (Check (Some number)) bytes number
  deeper : (b : ℕ) (rest : List ℕ) → Wrong Deeper (b ∷ rest) too_deep

-- The first violation at a field: its number, and how many bytes are left at its place. Something wrong stands at the
-- field's first byte. A field that lacks bytes with nothing wrong in them is truncated, at the end of all bytes.
pub data Violates (f : Field) (bytes : List ℕ) : ℕ → ℕ → Type 0 where
  wrong : {number : ℕ} → Wrong f bytes number → Violates f bytes number (length bytes)
  cut : length bytes < needs f bytes → ((number : ℕ) → ¬ Wrong f bytes number) → Violates f bytes truncated 0
