-- What a text begins with, as the code finds it: counts are of the bytes behind the first.
use Rattle.std.specs.Prelude.{ℕ, ◌+◌, ◌<◌, Bool, cond, ◌==◌, ◌&&◌, nat_le, List, [], ◌∷◌, take, Option, None, Some, false}
use Rattle.std.specs.List.{prefix_len}
use Rattle.rb_trees.specs.declared.tokens.TokenKind.{TokenKind}
use Rattle.rb_trees.specs.declared.tokens.TokenKind.TheVariants as kinds
use Rattle.rb_meaning_bytes.specs.tokens.Bytes.{is_word_byte, is_digit, is_in_line}
use Rattle.rb_meaning_bytes.specs.tokens.Tables.{keywords, signs, number_in}
use Rattle.rb_meaning_bytes.specs.tokens.Values.{number_value}
use Rattle.rb_meaning_bytes.specs.tokens.Faults.{greatest_number, longest_value}
use Rattle.rb_lex.specs.declared.bytes.Class.{Class}
use Rattle.rb_lex.specs.declared.bytes.Class.TheVariants as classes
use Rattle.rb_lex.specs.declared.literals.End.{End}
use Rattle.rb_lex.specs.declared.literals.End.TheVariants.{Closes, Breaks, Never}
use Rattle.rb_lex.specs.declared.heads.Head.{Head}
use Rattle.rb_lex.specs.declared.heads.Head.TheVariants.{Skip, Take, Large, Long, Open, Bad}
use Rattle.rb_lex.specs.Classes.{class_of}
use Rattle.rb_lex.specs.Ends.{text_end}

abbrev pub keyword_or_name : Option ℕ → TokenKind
keyword_or_name (Some number) = kinds.Keyword number
keyword_or_name None = kinds.Name

abbrev pub word_kind : List ℕ → TokenKind
word_kind word = keyword_or_name (number_in keywords word)

abbrev pub number_head : Bool → List ℕ → ℕ → Head
number_head minus digits n = cond (nat_le (number_value digits) (greatest_number minus)) (Take kinds.Number n) Large

abbrev pub text_head : End → Head
text_head (Closes n size) = cond (nat_le size longest_value) (Take kinds.TextLit (n + 1)) Long
text_head (Breaks n) = Bad (n + 1)
text_head Never = Open

-- a sign of so many bytes behind the first, or else that
abbrev pub sign_or : Option ℕ → ℕ → Head → Head
sign_or (Some number) n other = Take (kinds.Sign number) n
sign_or None n other = other

abbrev pub one_sign : List ℕ → Head
one_sign [] = Bad 0
one_sign (a ∷ rest) = sign_or (number_in signs (a ∷ [])) 0 (Bad 0)

abbrev pub other_head : List ℕ → Head
other_head [] = Bad 0
other_head (a ∷ []) = one_sign (a ∷ [])
other_head (a ∷ b ∷ rest) = cond ((a == 47) && (b == 47)) (Skip (1 + prefix_len is_in_line rest))
    (sign_or (number_in signs (a ∷ b ∷ [])) 1 (one_sign (a ∷ b ∷ rest)))

abbrev pub head_by : Class → Bool → List ℕ → List ℕ → Head
head_by classes.Separator minus text more = Skip 0
head_by classes.Letter minus text more = let n = prefix_len is_word_byte more in Take (word_kind (take (n + 1) text)) n
head_by classes.Digit minus text more = let n = prefix_len is_digit more in number_head minus (take (n + 1) text) n
head_by classes.Quote minus text more = text_head (text_end false more)
head_by classes.Other minus text more = other_head text

unfoldable pub head_of : Bool → List ℕ → Head
head_of minus [] = Bad 0
head_of minus (b ∷ bs) = head_by (class_of b) minus (b ∷ bs) bs

-- The head ends within so many bytes.
abbrev pub HeadWithin : Head → ℕ → Type 0
HeadWithin (Skip n) count = n < count
HeadWithin (Take kind n) count = n < count
HeadWithin Large count = Unit {0}
HeadWithin Long count = Unit {0}
HeadWithin Open count = Unit {0}
HeadWithin (Bad n) count = n < count
