-- Going over pieces from one kind of state to another, and over the lines of programs.
use Rattle.std.proofs.Common.{◌≡◌, ℕ, suc, ◌-◌, ◌≤◌, false, true, List, [], ◌∷◌, ◌++◌, refl, arith}
use Rattle.rb_trees.specs.declared.tokens.TokenKind.{TokenKind}
use Rattle.rb_trees.specs.declared.tokens.TokenKind.TheVariants as kind
use Rattle.rb_trees.specs.printing.Pieces.{Piece, Token, Space}
use Rattle.rb_trees.specs.printing.Exprs.{in_parentheses}
use Rattle.rb_trees.specs.printing.Stmts.{line, opened, closed, closed_by}
use Rattle.rb_trees.specs.printing.Words as w
use Rattle.rb_trees.specs.Kinds as k
use Rattle.rb_trees.specs.Kinds.{is_one_of}
use Rattle.rb_meaning_bytes.specs.grammar.Limits.{Nesting, ends_expression}
use Rattle.rb_parse.proofs.printing.within.States.{Open, Plain, words, brackets, counting, after_calm, after_end, after_word, after_brace, after_close}
use Rattle.rb_parse.proofs.printing.within.Fits.{Fits, nothing, spaced, joined, weaker, next}
use Rattle.rb_parse.proofs.printing.within.Types.{Behind, Past}
use Rattle.rb_parse.proofs.printing.within.Exprs.{Fitting, counted}

-- From any state of the one kind the pieces break no limit, and end in a state of the other.
pub record Goes (P Q : Nesting → Type 0) (ps : List Piece) : Type 0 where
  pub goes : (n : Nesting) → P n → Fits Q n ps

pub stay : {P : Nesting → Type 0} → Goes P P []
stay = record { goes = λ n h. nothing h }

pub then : {P Q R : Nesting → Type 0} {ps qs : List Piece} → Goes P Q ps → Goes Q R qs → Goes P R (ps ++ qs)
then x y = record { goes = λ n h. joined (x.goes n h) (λ o g. y.goes o g) }

pub gap : {P Q : Nesting → Type 0} {ps : List Piece} (bytes : List ℕ) → Goes P Q ps → Goes P Q (Space bytes ∷ ps)
gap bytes x = record { goes = λ n h. spaced bytes (x.goes n h) }

-- a token that counts for nothing
pub step : {b m : ℕ} {Q : Nesting → Type 0} {ps : List Piece} (kind : TokenKind) (bytes : List ℕ) → is_one_of kind counting ≡ false → Plain kind → Goes (Behind b 0 m) Q ps → Goes (Behind b 0 m) Q (Token kind bytes ∷ ps)
step kind bytes c p x = record { goes = λ n h. let a = after_calm kind c h.open_is in next a (x.goes _ (record { open_is = a; last = p })) }

-- such a token alone
pub last_step : {b m : ℕ} (kind : TokenKind) (bytes : List ℕ) → is_one_of kind counting ≡ false → Plain kind → Goes (Behind b 0 m) (Past b 0 m) (Token kind bytes ∷ [])
last_step kind bytes c p = record { goes = λ n h. let a = after_calm kind c h.open_is in next a (nothing (record { open_is = a; last = p; before = h.last })) }

pub name_step : {b m : ℕ} {Q : Nesting → Type 0} {ps : List Piece} (name : List ℕ) → Goes (Behind b 0 m) Q ps → Goes (Behind b 0 m) Q (Token kind.Name name ∷ ps)
name_step name x = step kind.Name name refl refl x

-- the same from a state of which more is told
pub from_past : {b m : ℕ} {Q : Nesting → Type 0} {ps : List Piece} → Goes (Behind b 0 m) Q ps → Goes (Past b 0 m) Q ps
from_past x = record { goes = λ n h. x.goes n (record { open_is = h.open_is; last = h.last }) }

-- an outermost expression
pub whole : {b i : ℕ} {ps : List Piece} → Fitting ps i → i ≤ 200 → Goes (Behind b 0 0) (Behind b 0 i) ps
whole {b} {i} x l = record { goes = λ n h. weaker (x.fits b 0 n (omega (arith, l)) h) (λ o g. counted i (omega arith) l g) }

-- what an outermost expression ends with
ending : {b m : ℕ} {Q : Nesting → Type 0} {ps : List Piece} (kind : TokenKind) (bytes : List ℕ) → is_one_of kind brackets ≡ false → ends_expression kind ≡ true → Plain kind → Goes (Behind b 0 0) Q ps → Goes (Behind b 0 m) Q (Token kind bytes ∷ ps)
ending kind bytes s e p x = record { goes = λ n h. let a = after_end kind s e h.open_is in next a (x.goes _ (record { open_is = a; last = p })) }

pub semicolon_step : {b m : ℕ} → Goes (Behind b 0 m) (Behind b 0 0) (w.semicolon ∷ [])
unfolding ends_expression
semicolon_step = ending k.sign_semicolon _ refl refl refl stay

pub assign_step : {b m : ℕ} {Q : Nesting → Type 0} {ps : List Piece} → Goes (Behind b 0 0) Q ps → Goes (Behind b 0 m) Q (w.assign ∷ ps)
unfolding ends_expression
assign_step x = ending k.sign_assign _ refl refl refl x

pub in_step : {b m : ℕ} {Q : Nesting → Type 0} {ps : List Piece} → Goes (Behind b 0 0) Q ps → Goes (Behind b 0 m) Q (w.in_word ∷ ps)
unfolding ends_expression
in_step x = ending k.keyword_in _ refl refl refl x

-- Behind a word whose bracket is no mark
pub record Worded (b : ℕ) (n : Nesting) : Type 0 where
  pub open_is : Open b 0 0 n
  pub word : is_one_of n.last words ≡ true

pub word_step : {b : ℕ} {Q : Nesting → Type 0} {ps : List Piece} (kind : TokenKind) (bytes : List ℕ) → is_one_of kind counting ≡ false → is_one_of kind words ≡ true → Goes (Worded b) Q ps → Goes (Behind b 0 0) Q (Token kind bytes ∷ ps)
word_step kind bytes c v x = record { goes = λ n h. let a = after_calm kind c h.open_is in next a (x.goes _ (record { open_is = a; word = v })) }

pub head_goes : {b m : ℕ} {ps : List Piece} → Goes (Behind b 0 0) (Behind b 0 m) ps → Goes (Worded b) (Past b 0 m) (in_parentheses ps)
head_goes x = record { goes = λ n h. let a = after_word h.word h.open_is in next a (joined (x.goes _ (record { open_is = a; last = refl })) (λ o g. (last_step k.sign_close _ refl refl).goes o g)) }

pub line_goes : {P Q : Nesting → Type 0} {ps : List Piece} (indent : List ℕ) → Goes P Q ps → Goes P Q (line indent ps)
line_goes indent x = gap indent (then x (gap _ stay))

-- what opens a block
pub opened_goes : {b m : ℕ} {P : Nesting → Type 0} {ps : List Piece} → suc b ≤ 64 → Goes P (Past b 0 m) ps → Goes P (Behind (suc b) 0 0) (opened ps)
opened_goes l x = then x (gap _ (record { goes = λ n h. let a = after_brace h.before l h.open_is in next a (nothing (record { open_is = a; last = refl })) }))

-- `}`, behind which one block less is open
close_step : {b : ℕ} {Q : Nesting → Type 0} {ps : List Piece} (c : ℕ) → b - 1 ≡ c → Goes (Behind c 0 0) Q ps → Goes (Behind b 0 0) Q (w.close_brace ∷ ps)
close_step c e x = record { goes = λ n h. let a = after_close c e h.open_is in next a (x.goes _ (record { open_is = a; last = refl })) }

pub closed_goes : {b : ℕ} (indent : List ℕ) (c : ℕ) → b - 1 ≡ c → Goes (Behind b 0 0) (Behind c 0 0) (closed indent)
closed_goes indent c e = line_goes indent (close_step c e stay)

pub closed_by_goes : {b m : ℕ} {ps : List Piece} → suc b ≤ 64 → Goes (Behind b 0 0) (Past b 0 m) ps → Goes (Behind (suc b) 0 0) (Behind (suc b) 0 0) (closed_by ps)
closed_by_goes {b} l x = close_step b (omega arith) (gap _ (opened_goes l x))

-- a block: the line that opens it, its own lines, and the line that closes it
pub block_goes : {b : ℕ} {P : Nesting → Type 0} {head lines : List Piece} (indent : List ℕ) → Goes P (Behind (suc b) 0 0) head → Goes (Behind (suc b) 0 0) (Behind (suc b) 0 0) lines → Goes P (Behind b 0 0) (line indent head ++ lines ++ closed indent)
block_goes {b} indent x y = then (then (line_goes indent x) y) (closed_goes indent b (omega arith))
