-- The turns of the outer loop: what the rest is read as, the whole is, with the list in front.
use Rattle.std.proofs.Common.{◌≡◌, ℕ, ◌+◌, ◌-◌, ◌<◌, ◌≤◌, Bool, false, eqb, List, [], ◌∷◌, ◌++◌, length, drop, refl, sym, ap, subst, arith, Ok, Err, append_assoc, length-drop}
use Rattle.std.proofs.lemmas.Bool.Decides.{nat_tests}
use Rattle.std.proofs.lemmas.List.{append-nil, nil_from_length}
use Rattle.rb_trees.specs.declared.tokens.Token.{Token}
use Rattle.rb_trees.specs.declared.tokens.TokenKind.{TokenKind}
use Rattle.rb_trees.specs.declared.reading.LexError.{LexError}
use Rattle.rb_trees.specs.declared.reading.LexError.TheVariants.{BadByte, OpenText, NumberTooLarge, TooLong}
use Rattle.rb_meaning_bytes.specs.tokens.Faults.{Faults}
use Rattle.rb_meaning_bytes.specs.tokens.Lexes.{Lexes, with_front, done, skip, token, fault}
use Rattle.rb_meaning_bytes.specs.tokens.Lists.{is_minus}
use Rattle.rb_meaning_bytes.specs.tokens.Texts.{Outcome}
use Rattle.rb_lex.specs.declared.heads.Head.{Head}
use Rattle.rb_lex.specs.declared.heads.Head.TheVariants.{Skip, Take, Large, Long, Open, Bad}
use Rattle.rb_lex.specs.Heads.{head_of}
use Rattle.rb_lex.proofs.Found.{Finds, finds}

pub finds_some : (minus : Bool) (at : ℕ) (text : List ℕ) → 0 < length text → Finds minus at text (head_of minus text)
finds_some minus at [] l = absurd (omega arith)
finds_some minus at (b ∷ bs) l = finds minus at b bs

pub found : (minus : Bool) (at : ℕ) (text : List ℕ) (head : Head) → 0 < length text → head ≡ head_of minus text → Finds minus at text head
found minus at text head l h = subst (Finds minus at text) (sym h) (finds_some minus at text l)

pub front_twice : (list : List Token) (t : Token) (outcome : Outcome) → with_front list (with_front (t ∷ []) outcome) ≡ with_front (list ++ t ∷ []) outcome
front_twice list t (Ok tokens) = ap Ok (sym (append_assoc list (t ∷ []) tokens))
front_twice list t (Err e) = refl

pub not_zero : (n : ℕ) → eqb n 0 ≡ false → 0 < n
not_zero n h = grind (arith, nat_tests)

-- The text from the rest on has the outcome, and so has the whole.
abbrev pub Continues : List ℕ → List ℕ → Bool → List Token → Type 0
Continues whole rest minus list = (outcome : Outcome) → Lexes minus (length whole - length rest) rest outcome → Lexes false 0 whole (with_front list outcome)

module _ (whole rest : List ℕ) (minus : Bool) (list : List Token) (on : Continues whole rest minus list) (l : length rest ≤ length whole) (s : 0 < length rest) where
  behind : (n : ℕ) → n < length rest → length whole - length (drop (n + 1) rest) ≡ length whole - length rest + (n + 1)
  behind n m = omega (arith, length-drop (n + 1) rest)

  pub skip_turn : (n : ℕ) → n < length rest → Skip n ≡ head_of minus rest → (next : List ℕ) → next ≡ drop (n + 1) rest → Continues whole next minus list
  skip_turn n m h next e outcome d =
      let r : Lexes minus (length whole - length (drop (n + 1) rest)) (drop (n + 1) rest) outcome = subst (λ t. Lexes minus (length whole - length t) t outcome) e d in
      on outcome (skip (n + 1) (found minus 0 rest (Skip n) s h) (subst (λ at. Lexes minus at (drop (n + 1) rest) outcome) (behind n m) r))

  pub take_turn : (kind : TokenKind) (n : ℕ) → n < length rest → Take kind n ≡ head_of minus rest → (next : List ℕ) → next ≡ drop (n + 1) rest
      → (after : Bool) → after ≡ is_minus kind → (longer : List Token) → longer ≡ list ++ record { kind = kind; start = length whole - length rest; end = length whole - length rest + (n + 1) } ∷ []
      → Continues whole next after longer
  take_turn kind n m h next e after g longer k outcome d =
      let f = found minus 0 rest (Take kind n) s h in
      let i : Lexes (is_minus kind) (length whole - length next) next outcome = subst (λ v. Lexes v (length whole - length next) next outcome) g d in
      let r : Lexes (is_minus kind) (length whole - length (drop (n + 1) rest)) (drop (n + 1) rest) outcome = subst (λ t. Lexes (is_minus kind) (length whole - length t) t outcome) e i in
      subst (λ ts. Lexes false 0 whole (with_front ts outcome)) (sym k)
      (subst (Lexes false 0 whole) (front_twice list _ outcome)
      (on _ (token kind (n + 1) f.0 f.1 (subst (λ at. Lexes (is_minus kind) at (drop (n + 1) rest) outcome) (behind n m) r))))

  pub fault_turn : (e : LexError) → Faults minus (length whole - length rest) rest e → Lexes false 0 whole (Err e)
  fault_turn e f = on (Err e) (fault f)

  pub large_turn : Large ≡ head_of minus rest → Lexes false 0 whole (Err (NumberTooLarge (length whole - length rest)))
  large_turn h = fault_turn _ (found minus (length whole - length rest) rest Large s h)

  pub long_turn : Long ≡ head_of minus rest → Lexes false 0 whole (Err (TooLong (length whole - length rest)))
  long_turn h = fault_turn _ (found minus (length whole - length rest) rest Long s h)

  pub open_turn : Open ≡ head_of minus rest → Lexes false 0 whole (Err (OpenText (length whole - length rest)))
  open_turn h = fault_turn _ (found minus (length whole - length rest) rest Open s h)

  pub bad_turn : (n : ℕ) → Bad n ≡ head_of minus rest → Lexes false 0 whole (Err (BadByte (length whole - length rest + n)))
  bad_turn n h =
      let f = found minus (length whole - length rest) rest (Bad n) s h in
      fault_turn _ (subst (λ at. Faults minus (length whole - length rest) rest (BadByte at)) f.is f.fault)

pub last_turn : (whole rest : List ℕ) (minus : Bool) (list : List Token) → Continues whole rest minus list → length rest ≡ 0 → Lexes false 0 whole (Ok list)
last_turn whole rest minus list on e =
    subst (λ tokens. Lexes false 0 whole (Ok tokens)) (append-nil list)
    (on (Ok []) (subst (λ t. Lexes minus (length whole - length rest) t (Ok [])) (sym (nil_from_length rest e)) done))
