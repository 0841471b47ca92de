-- What the form of a slice tells by the class of its first byte.
use Rattle.std.proofs.Common.{◌≡◌, ℕ, ◌<◌, Bool, true, false, cond, eqb, List, [], ◌∷◌, ◌++◌, length, refl, sym, ap, subst, ◌∙◌, arith, Option, None, Some}
use Rattle.std.proofs.lemmas.Bool.Decides.{nat_tests}
use Rattle.std.specs.List.{list_all}
use Rattle.rb_trees.specs.declared.tokens.TokenKind.{TokenKind}
use Rattle.rb_trees.specs.declared.tokens.TokenKind.TheVariants as kinds
use Rattle.rb_meaning_bytes.specs.tokens.Bytes.{is_separator, is_letter, is_digit, is_word_byte}
use Rattle.rb_meaning_bytes.specs.tokens.Tables.{keywords, signs, number_in}
use Rattle.rb_meaning_bytes.specs.tokens.Forms.{Form, IsWord, IsLiteral}
use Rattle.rb_lex.specs.declared.bytes.Class.{Class}
use Rattle.rb_lex.specs.declared.bytes.Class.TheVariants as classes
use Rattle.rb_lex.specs.Classes.{class_of}
use Rattle.rb_lex.specs.Heads.{keyword_or_name, word_kind}
use Rattle.rb_lex.proofs.InTables.{placed, keyword_word}

-- the class of a byte by its tests, and back

pub letter_class : (b : ℕ) → is_letter b ≡ true → class_of b ≡ classes.Letter
unfolding class_of is_separator is_letter is_digit
letter_class b h = grind (arith, nat_tests)

pub digit_class : (b : ℕ) → is_digit b ≡ true → class_of b ≡ classes.Digit
unfolding class_of is_separator is_letter is_digit
digit_class b h = grind (arith, nat_tests)

pub separator_class : (b : ℕ) → is_separator b ≡ true → class_of b ≡ classes.Separator
unfolding class_of
separator_class b h = rw h

pub quote_class : class_of 34 ≡ classes.Quote
unfolding class_of is_separator is_letter is_digit
quote_class = refl

pub slash_class : class_of 47 ≡ classes.Other
unfolding class_of is_separator is_letter is_digit
slash_class = refl

-- what a class tells, by all tests in their order
abbrev pub ClassTells : Class → ℕ → Type 0
ClassTells classes.Separator b = is_separator b ≡ true
ClassTells classes.Letter b = is_letter b ≡ true
ClassTells classes.Digit b = is_digit b ≡ true
ClassTells classes.Quote b = b ≡ 34
ClassTells classes.Other b = Unit {0}

class_by : (b : ℕ) (s l d q : Bool) → is_separator b ≡ s → is_letter b ≡ l → is_digit b ≡ d → eqb b 34 ≡ q → ClassTells (cond s classes.Separator (cond l classes.Letter (cond d classes.Digit (cond q classes.Quote classes.Other)))) b
class_by b true l d q h1 h2 h3 h4 = h1
class_by b false true d q h1 h2 h3 h4 = h2
class_by b false false true q h1 h2 h3 h4 = h3
class_by b false false false true h1 h2 h3 h4 = grind (arith, nat_tests)
class_by b false false false false h1 h2 h3 h4 = tt

pub class_tells : (b : ℕ) → ClassTells (class_of b) b
unfolding class_of
class_tells b = class_by b (is_separator b) (is_letter b) (is_digit b) (eqb b 34) refl refl refl refl

pub told_by : (b : ℕ) (k : Class) → class_of b ≡ k → ClassTells k b
told_by b k h = subst (λ c. ClassTells c b) h (class_tells b)

-- each sign has one or two bytes, and the first is of no other class

abbrev is_other : Class → Bool
is_other classes.Other = true
is_other classes.Separator = false
is_other classes.Letter = false
is_other classes.Digit = false
is_other classes.Quote = false

other_is : (k : Class) → is_other k ≡ true → k ≡ classes.Other
other_is classes.Other h = refl
other_is classes.Separator h = cc
other_is classes.Letter h = cc
other_is classes.Digit h = cc
other_is classes.Quote h = cc

abbrev is_sign : List ℕ → Bool
is_sign [] = false
is_sign (a ∷ []) = is_other (class_of a)
is_sign (a ∷ b ∷ []) = is_other (class_of a)
is_sign (a ∷ b ∷ c ∷ bs) = false

all_signs : list_all is_sign signs ≡ true
unfolding signs class_of is_separator is_letter is_digit
all_signs = refl

-- IsSign w: a slice of one or two bytes of which the first is of class Other
abbrev pub IsSign : List ℕ → Type 0
IsSign [] = ⊥
IsSign (a ∷ bs) = (class_of a ≡ classes.Other) × (length bs < 2)

sign_is : (w : List ℕ) → is_sign w ≡ true → IsSign w
sign_is [] h = cc
sign_is (a ∷ []) h = (other_is (class_of a) h, omega arith)
sign_is (a ∷ b ∷ []) h = (other_is (class_of a) h, omega arith)
sign_is (a ∷ b ∷ c ∷ bs) h = cc

pub sign_short : (w : List ℕ) (n : ℕ) → number_in signs w ≡ Some n → IsSign w
sign_short w n h = sign_is w (placed is_sign w signs n all_signs h)

-- What the form of a slice tells by the class of its first byte.
abbrev pub Shows : TokenKind → Class → ℕ → List ℕ → Type 0
Shows kind classes.Separator b bs = ⊥
Shows kind classes.Letter b bs = (kind ≡ word_kind (b ∷ bs)) × (list_all is_word_byte bs ≡ true)
Shows kind classes.Digit b bs = (kind ≡ kinds.Number) × (list_all is_digit bs ≡ true)
Shows kind classes.Quote b bs = (kind ≡ kinds.TextLit) × IsLiteral (b ∷ bs)
Shows kind classes.Other b bs = (place : ℕ) × (kind ≡ kinds.Sign place) × (number_in signs (b ∷ bs) ≡ Some place) × (length bs < 2)

moved : (kind : TokenKind) (k : Class) (b : ℕ) (bs : List ℕ) → class_of b ≡ k → Shows kind k b bs → Shows kind (class_of b) b bs
moved kind k b bs h s = subst (λ c. Shows kind c b bs) (sym h) s

first_quote : (b : ℕ) (bs body : List ℕ) → b ∷ bs ≡ 34 ∷ (body ++ 34 ∷ []) → class_of b ≡ classes.Quote
first_quote b bs body h = let e : b ≡ 34 = cc in ap class_of e ∙ quote_class

pub shows : (kind : TokenKind) (b : ℕ) (bs : List ℕ) → Form kind (b ∷ bs) → Shows kind (class_of b) b bs
shows kinds.Name b bs f = moved kinds.Name classes.Letter b bs (letter_class b f.0.0) (ap keyword_or_name (sym f.1), f.0.1)
shows kinds.Number b bs f = moved kinds.Number classes.Digit b bs (digit_class b f.0) (refl, f.1)
shows kinds.TextLit b bs f = moved kinds.TextLit classes.Quote b bs (first_quote b bs f.0 f.1) (refl, f)
shows (kinds.Keyword n) b bs f = let w = keyword_word (b ∷ bs) n f in moved (kinds.Keyword n) classes.Letter b bs (letter_class b w.0) (ap keyword_or_name (sym f), w.1)
shows (kinds.Sign n) b bs f = let s = sign_short (b ∷ bs) n f in moved (kinds.Sign n) classes.Other b bs s.0 (n, refl, f, s.1)

pub shows_at : (kind : TokenKind) (k : Class) (b : ℕ) (bs : List ℕ) → class_of b ≡ k → Form kind (b ∷ bs) → Shows kind k b bs
shows_at kind k b bs h f = subst (λ c. Shows kind c b bs) h (shows kind b bs f)

pub not_empty : (kind : TokenKind) → ¬ Form kind []
not_empty kinds.Name f = f.0
not_empty kinds.Number f = f
not_empty kinds.TextLit f = let e = f.1 in cc
not_empty (kinds.Keyword n) f = keyword_word [] n f
not_empty (kinds.Sign n) f = sign_short [] n f

-- A slice has one kind's form.
kind_shown : (k : Class) (b : ℕ) (bs : List ℕ) (one other : TokenKind) → Shows one k b bs → Shows other k b bs → one ≡ other
kind_shown classes.Separator b bs one other s t = absurd s
kind_shown classes.Letter b bs one other s t = s.0 ∙ sym t.0
kind_shown classes.Digit b bs one other s t = s.0 ∙ sym t.0
kind_shown classes.Quote b bs one other s t = s.0 ∙ sym t.0
kind_shown classes.Other b bs one other s t = let p = s.1 in let q = t.1 in let u = s.2 in let v = t.2 in cc

pub one_form : (w : List ℕ) (one other : TokenKind) → Form one w → Form other w → one ≡ other
one_form [] one other f g = absurd (not_empty one f)
one_form (b ∷ bs) one other f g = kind_shown (class_of b) b bs one other (shows one b bs f) (shows other b bs g)

-- a slice that begins with a letter, and goes on by letters and digits, is a word
pub word_formed_by : (w : List ℕ) (place : Option ℕ) → number_in keywords w ≡ place → IsWord w → Form (keyword_or_name place) w
word_formed_by w None h f = (f, h)
word_formed_by w (Some n) h f = h

pub word_formed : (w : List ℕ) → IsWord w → Form (word_kind w) w
word_formed w f = word_formed_by w (number_in keywords w) refl f
