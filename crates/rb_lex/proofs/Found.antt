-- What the code finds at the head of a text, stands there.
use Rattle.std.proofs.Common.{◌≡◌, ℕ, zero, suc, ◌+◌, ◌<◌, ◌≤◌, Bool, true, false, ◌&&◌, cond, eqb, List, [], ◌∷◌, ◌++◌, length, take, drop, refl, sym, ap, subst, ◌∙◌, arith, Option, None, Some, add-one, ◌⊎◌, inl, inr, append_assoc, length-append}
use Rattle.std.proofs.lemmas.Bool.{and_parts}
use Rattle.std.proofs.lemmas.Bool.Decides.{nat_tests}
use Rattle.std.proofs.lemmas.List.Sums.{prefix_len-le-length}
use Rattle.std.specs.List.{list_all, prefix_len}
use Rattle.std.specs.Prelude.{nat_le}
use Rattle.std.proofs.lemmas.List.{take-append-drop, length-take-le, take_at}
use mathlib.Core.Logic.{⊎_elim}
use Rattle.rb_trees.specs.declared.tokens.TokenKind.{TokenKind}
use Rattle.rb_trees.specs.declared.tokens.TokenKind.TheVariants as kinds
use Rattle.rb_trees.specs.declared.reading.LexError.TheVariants.{BadByte, OpenText, NumberTooLarge, TooLong}
use Rattle.rb_meaning_bytes.specs.tokens.Bytes.{is_digit, is_word_byte, is_in_line}
use Rattle.rb_meaning_bytes.specs.tokens.Tables.{keywords, signs, number_in}
use Rattle.rb_meaning_bytes.specs.tokens.Values.{number_value, text_value, unescaped, escape_value}
use Rattle.rb_meaning_bytes.specs.tokens.Forms.{Form, IsWord, IsLiteral, Body, empty, plain, escape}
use Rattle.rb_meaning_bytes.specs.tokens.Begins.{Begins, IsComment, Skips, separator, comment}
use Rattle.rb_meaning_bytes.specs.tokens.Faults.{Faults, WithinLimits, greatest_number, longest_value, number_too_large, text_too_long, open_text, bad_escape, bad_byte}
use Rattle.rb_lex.specs.declared.bytes.Class.{Class}
use Rattle.rb_lex.specs.declared.bytes.Class.TheVariants as classes
use Rattle.rb_lex.specs.declared.literals.End.{End}
use Rattle.rb_lex.specs.declared.literals.End.TheVariants.{Closes, Breaks, Never}
use Rattle.rb_lex.specs.declared.heads.Head.{Head}
use Rattle.rb_lex.specs.declared.heads.Head.TheVariants.{Skip, Take, Large, Long, Open, Bad}
use Rattle.rb_lex.specs.Classes.{class_of}
use Rattle.rb_lex.specs.Ends.{text_end}
use Rattle.rb_lex.specs.Heads.{head_of, head_by, word_kind, keyword_or_name, text_head, other_head, one_sign, sign_or}
use Rattle.rb_lex.proofs.Slices.{shows_at, told_by, slash_class, quote_class, separator_class, not_empty, word_formed}
use Rattle.rb_lex.proofs.Ended.{Ended, Closed, ended, body_closes, plain_apart}

-- a fault at a place that is written in another way
pub record FaultAt (minus : Bool) (at : ℕ) (text : List ℕ) (place : ℕ) : Type 0 where
  pub offset : ℕ
  pub is : offset ≡ place
  pub fault : Faults minus at text (BadByte offset)

-- What a head says of the text that begins at the offset.
abbrev pub Finds : Bool → ℕ → List ℕ → Head → Type 0
Finds minus at text (Skip n) = Skips text (n + 1)
Finds minus at text (Take kind n) = Begins text kind (n + 1) × WithinLimits minus kind (take (n + 1) text)
Finds minus at text Large = Faults minus at text (NumberTooLarge at)
Finds minus at text Long = Faults minus at text (TooLong at)
Finds minus at text Open = Faults minus at text (OpenText at)
Finds minus at text (Bad n) = FaultAt minus at text (at + n)

-- runs of bytes

all_taken_by : (p : ℕ → Bool) (n : ℕ) (xs : List ℕ) (b : Bool) → suc n ≤ cond b (1 + prefix_len p xs) 0 → (n ≤ prefix_len p xs → list_all p (take n xs) ≡ true) → (b && list_all p (take n xs)) ≡ true
all_taken_by p n xs true l f = f (omega arith)
all_taken_by p n xs false l f = absurd (omega arith)

pub all_taken : (p : ℕ → Bool) (n : ℕ) (xs : List ℕ) → n ≤ prefix_len p xs → list_all p (take n xs) ≡ true
all_taken p zero xs l = refl
all_taken p (suc n) [] l = refl
all_taken p (suc n) (x ∷ xs) l = all_taken_by p n xs (p x) l (all_taken p n xs)

all_within_by : (p : ℕ → Bool) (n : ℕ) (xs : List ℕ) (b : Bool) → (b && list_all p (take n xs)) ≡ true → (list_all p (take n xs) ≡ true → n ≤ prefix_len p xs) → suc n ≤ cond b (1 + prefix_len p xs) 0
all_within_by p n xs true h f = let l = f h in omega arith
all_within_by p n xs false h f = cc

pub all_within : (p : ℕ → Bool) (n : ℕ) (xs : List ℕ) → n ≤ length xs → list_all p (take n xs) ≡ true → n ≤ prefix_len p xs
all_within p zero xs l h = omega arith
all_within p (suc n) [] l h = absurd (omega arith)
all_within p (suc n) (x ∷ xs) l h = all_within_by p n xs (p x) h (all_within p n xs (omega arith))

pub take_next : (n b : ℕ) (bs : List ℕ) → take (n + 1) (b ∷ bs) ≡ b ∷ take n bs
take_next n b bs = rw add-one refl

-- a word or a number, by the run of bytes behind the first
module _ (p : ℕ → Bool) (b : ℕ) (bs : List ℕ) (all : (other : TokenKind) (w : List ℕ) → Form other (b ∷ w) → list_all p w ≡ true) where
  run_longest : (more : ℕ) → prefix_len p bs + 1 < more → more ≤ length (b ∷ bs) → (other : TokenKind) → ¬ Form other (take more (b ∷ bs))
  run_longest zero l m other f = omega arith
  run_longest (suc n) l m other f = let w = all_within p n bs (omega arith) (all other (take n bs) f) in omega arith

  run_begins : (kind : TokenKind) → ¬ IsComment (b ∷ bs) → Form kind (take (prefix_len p bs + 1) (b ∷ bs)) → Begins (b ∷ bs) kind (prefix_len p bs + 1)
  run_begins kind c f = record { within = (let l = prefix_len-le-length p bs in omega arith); formed = f; longest = run_longest; no_comment = c }

not_comment : (k : Class) (b : ℕ) (bs : List ℕ) → class_of b ≡ k → ¬ (k ≡ classes.Other) → ¬ IsComment (b ∷ bs)
not_comment k b bs h n c = let f = c.1 in let e : b ≡ 47 = cc in n (sym h ∙ ap class_of e ∙ slash_class)

word_limits : (minus : Bool) (place : Option ℕ) (w : List ℕ) → WithinLimits minus (keyword_or_name place) w
word_limits minus None w = tt
word_limits minus (Some n) w = tt

word_begins : (b : ℕ) (bs : List ℕ) → class_of b ≡ classes.Letter → Begins (b ∷ bs) (word_kind (take (prefix_len is_word_byte bs + 1) (b ∷ bs))) (prefix_len is_word_byte bs + 1)
word_begins b bs h =
    let n = prefix_len is_word_byte bs in
    let w : IsWord (take (n + 1) (b ∷ bs)) = subst IsWord (sym (take_next n b bs)) (told_by b classes.Letter h, all_taken is_word_byte n bs (omega arith)) in
    run_begins is_word_byte b bs (λ other u f. (shows_at other classes.Letter b u h f).1) _ (not_comment classes.Letter b bs h (λ e. cc)) (word_formed _ w)

number_begins : (b : ℕ) (bs : List ℕ) → class_of b ≡ classes.Digit → Begins (b ∷ bs) kinds.Number (prefix_len is_digit bs + 1)
number_begins b bs h =
    let n = prefix_len is_digit bs in
    run_begins is_digit b bs (λ other u f. (shows_at other classes.Digit b u h f).1) kinds.Number (not_comment classes.Digit b bs h (λ e. cc))
    (subst (Form kinds.Number) (sym (take_next n b bs)) (told_by b classes.Digit h, all_taken is_digit n bs (omega arith)))

le_is : (a b : ℕ) → nat_le a b ≡ true → a ≤ b
le_is a b h = grind (arith, nat_tests)

lt_is : (a b : ℕ) → nat_le a b ≡ false → b < a
lt_is a b h = grind (arith, nat_tests)

number_finds : (minus : Bool) (at : ℕ) (text : List ℕ) (n : ℕ) (small : Bool) → nat_le (number_value (take (n + 1) text)) (greatest_number minus) ≡ small → Begins text kinds.Number (n + 1)
    → Finds minus at text (cond small (Take kinds.Number n) Large)
number_finds minus at text n true h b = (b, le_is _ _ h)
number_finds minus at text n false h b = number_too_large (n + 1) b (lt_is _ _ h)

-- text literals

-- the literal in a slice that begins with a quote closes where the text does
pub literal_end : (bs : List ℕ) (n : ℕ) → n ≤ length bs → IsLiteral (34 ∷ take n bs) → (k : ℕ) × (size : ℕ) × (n ≡ k + 1) × (text_end false bs ≡ Closes k size)
literal_end bs n l f =
    let body = f.0 in
    let h = f.1 in
    let e : take n bs ≡ body ++ 34 ∷ [] = cc in
    let c = body_closes body (drop n bs) f.2 in
    let w : bs ≡ body ++ 34 ∷ drop n bs = sym (take-append-drop n bs) ∙ ap (λ v. v ++ drop n bs) e ∙ append_assoc body (34 ∷ []) (drop n bs) in
    let k : length (take n bs) ≡ length (body ++ 34 ∷ []) = ap length e in
    (length body, c.0, omega (arith, length-take-le n bs l, length-append body (34 ∷ [])), ap (text_end false) w ∙ c.1)

take_closed : (body rest : List ℕ) → take (length body + 1) (body ++ 34 ∷ rest) ≡ body ++ 34 ∷ []
take_closed body rest =
    ap (take (length body + 1)) (sym (append_assoc body (34 ∷ []) rest)) ∙ take_at (body ++ 34 ∷ []) rest (length body + 1) (length-append body (34 ∷ []))

body_value : {body : List ℕ} (rest : List ℕ) → Body body → unescaped false (body ++ 34 ∷ rest) ≡ unescaped false (body ++ 34 ∷ [])
body_value rest empty = refl
body_value rest (plain {body} b p d) =
    let a = plain_apart b p in
    let h = a.0 in
    let g = a.2 in
    let i : b ∷ unescaped false (body ++ 34 ∷ rest) ≡ b ∷ unescaped false (body ++ 34 ∷ []) = ap (λ v. b ∷ v) (body_value rest d) in
    rw (h, g) i
body_value rest (escape {body} b p d) = ap (λ v. escape_value b ∷ v) (body_value rest d)

module _ (bs : List ℕ) (n size : ℕ) (e : text_end false bs ≡ Closes n size) (c : Closed bs n size) where
  literal_slice : take (n + 1) bs ≡ c.body ++ 34 ∷ []
  literal_slice = ap (take (n + 1)) c.is ∙ ap (λ k. take (k + 1) (c.body ++ 34 ∷ c.rest)) (sym c.count) ∙ take_closed c.body c.rest

  literal_longest : (more : ℕ) → n + 1 + 1 < more → more ≤ length (34 ∷ bs) → (other : TokenKind) → ¬ Form other (take more (34 ∷ bs))
  literal_longest zero l m other f = omega arith
  literal_longest (suc k) l m other f =
      let s = literal_end bs k (omega arith) (shows_at other classes.Quote 34 (take k bs) quote_class f).1 in
      let h = s.3 in
      let i : s.0 ≡ n = cc in
      let j = s.2 in
      omega arith

  literal_begins : Begins (34 ∷ bs) kinds.TextLit (n + 1 + 1)
  literal_begins = record {
    within = (let l = ap length c.is in omega (arith, length-append c.body (34 ∷ c.rest), c.count));
    formed = subst IsLiteral (sym (take_next (n + 1) 34 bs)) (c.body, ap (λ v. 34 ∷ v) literal_slice, c.good);
    longest = literal_longest;
    no_comment = not_comment classes.Quote 34 bs quote_class (λ e. cc);
  }

  literal_value : length (text_value (take (n + 1 + 1) (34 ∷ bs))) ≡ size
  literal_value =
      ap (λ v. length (text_value v)) (take_next (n + 1) 34 bs) ∙ ap (λ v. length (unescaped false v)) literal_slice
      ∙ ap length (sym (body_value c.rest c.good)) ∙ ap (λ v. length (unescaped false v)) (sym c.is) ∙ c.value

  literal_finds : (minus : Bool) (at : ℕ) (short : Bool) → nat_le size longest_value ≡ short → Finds minus at (34 ∷ bs) (cond short (Take kinds.TextLit (n + 1)) Long)
  literal_finds minus at true h = (literal_begins, (let v = literal_value in let l = le_is _ _ h in omega arith))
  literal_finds minus at false h = text_too_long (n + 1 + 1) literal_begins (let v = literal_value in let l = lt_is _ _ h in omega arith)

text_finds : (minus : Bool) (at : ℕ) (bs : List ℕ) (e : End) → text_end false bs ≡ e → Ended bs e → Finds minus at (34 ∷ bs) (text_head e)
text_finds minus at bs (Closes n size) h c = literal_finds bs n size h c minus at (nat_le size longest_value) refl
text_finds minus at bs (Breaks n) h c =
    record {
      offset = at + (1 + length c.body);
      is = (let k = c.count in omega arith);
      fault = subst (λ l. Faults minus at (34 ∷ l) (BadByte (at + (1 + length c.body)))) (sym c.is) (bad_escape c.body c.more c.rest c.good c.bad c.goes);
    }
text_finds minus at bs Never h c = open_text c.rest c.goes c.ends

-- comments, signs and bad bytes

pub skips_what : {text : List ℕ} {size : ℕ} → Skips text size → (b : ℕ) (bs : List ℕ) → text ≡ b ∷ bs → (class_of b ≡ classes.Separator) ⊎ IsComment text
skips_what (separator a text h) b bs e = inl (let f : b ≡ a = cc in ap class_of f ∙ separator_class a h)
skips_what (comment text) b bs e = inr (text, refl)

module _ (a : ℕ) (bs : List ℕ) (h : class_of a ≡ classes.Other) where
  sign_not_long : (n : ℕ) → 1 < n → n ≤ length bs → (other : TokenKind) → ¬ Form other (a ∷ take n bs)
  sign_not_long n l m other f = let s = shows_at other classes.Other a (take n bs) h f in omega (arith, s.3, length-take-le n bs m)

  no_skips : ¬ IsComment (a ∷ bs) → (size : ℕ) → ¬ Skips (a ∷ bs) size
  no_skips c size s = ⊎_elim (λ e. cc) c (skips_what s a bs refl)

  no_begins : number_in signs (a ∷ []) ≡ None → ((n : ℕ) → 0 < n → n ≤ length bs → (other : TokenKind) → ¬ Form other (a ∷ take n bs)) → (kind : TokenKind) (size : ℕ) → ¬ Begins (a ∷ bs) kind size
  no_begins p l kind zero b = not_empty kind b.formed
  no_begins p l kind (suc zero) b = let s = shows_at kind classes.Other a [] h b.formed in let q = s.2 in cc
  no_begins p l kind (suc (suc n)) b = l (suc n) (omega arith) (let w = b.within in omega arith) kind b.formed

  one_longest : ((n : ℕ) → 0 < n → n ≤ length bs → (other : TokenKind) → ¬ Form other (a ∷ take n bs)) → (more : ℕ) → 1 < more → more ≤ length (a ∷ bs) → (other : TokenKind) → ¬ Form other (take more (a ∷ bs))
  one_longest l zero k m other f = omega arith
  one_longest l (suc n) k m other f = l n (omega arith) (omega arith) other f

  one_finds : (minus : Bool) (at : ℕ) → ¬ IsComment (a ∷ bs) → ((n : ℕ) → 0 < n → n ≤ length bs → (other : TokenKind) → ¬ Form other (a ∷ take n bs))
      → (place : Option ℕ) → number_in signs (a ∷ []) ≡ place → Finds minus at (a ∷ bs) (sign_or place 0 (Bad 0))
  one_finds minus at c l (Some n) p = (record { within = omega arith; formed = p; longest = one_longest l; no_comment = c }, tt)
  one_finds minus at c l None p =
      record { offset = at; is = omega arith; fault = bad_byte a bs (λ e. let f = ap class_of e in let q = quote_class in cc) (no_skips c) (no_begins p l) }

two_longest : (a b : ℕ) (rest : List ℕ) → class_of a ≡ classes.Other → (more : ℕ) → 2 < more → more ≤ length (a ∷ b ∷ rest) → (other : TokenKind) → ¬ Form other (take more (a ∷ b ∷ rest))
two_longest a b rest h zero k m other f = omega arith
two_longest a b rest h (suc n) k m other f = sign_not_long a (b ∷ rest) h n (omega arith) (omega arith) other f

none_longer : (a b : ℕ) (rest : List ℕ) → class_of a ≡ classes.Other → number_in signs (a ∷ b ∷ []) ≡ None → (n : ℕ) → 0 < n → n ≤ length (b ∷ rest) → (other : TokenKind) → ¬ Form other (a ∷ take n (b ∷ rest))
none_longer a b rest h p zero k m other f = omega arith
none_longer a b rest h p (suc zero) k m other f = let s = shows_at other classes.Other a (b ∷ []) h f in let q = s.2 in cc
none_longer a b rest h p (suc (suc n)) k m other f = sign_not_long a (b ∷ rest) h (suc (suc n)) (omega arith) m other f

two_finds : (minus : Bool) (at a b : ℕ) (rest : List ℕ) → class_of a ≡ classes.Other → ¬ IsComment (a ∷ b ∷ rest) → (place : Option ℕ) → number_in signs (a ∷ b ∷ []) ≡ place
    → Finds minus at (a ∷ b ∷ rest) (sign_or place 1 (one_sign (a ∷ b ∷ rest)))
two_finds minus at a b rest h c (Some n) p = (record { within = omega arith; formed = p; longest = two_longest a b rest h; no_comment = c }, tt)
two_finds minus at a b rest h c None p = one_finds a (b ∷ rest) h minus at c (none_longer a b rest h p) (number_in signs (a ∷ [])) refl

comment_finds : (minus : Bool) (at a b : ℕ) (rest : List ℕ) → a ≡ 47 → b ≡ 47 → Finds minus at (a ∷ b ∷ rest) (Skip (1 + prefix_len is_in_line rest))
comment_finds minus at a b rest h g =
    let n : 2 + prefix_len is_in_line rest ≡ 1 + prefix_len is_in_line rest + 1 = omega arith in
    let t : 47 ∷ 47 ∷ rest ≡ a ∷ b ∷ rest = cc in
    subst (λ l. Skips l (1 + prefix_len is_in_line rest + 1)) t (subst (Skips (47 ∷ 47 ∷ rest)) n (comment rest))

eqb_is : (a b : ℕ) → eqb a b ≡ true → a ≡ b
eqb_is a b h = grind (arith, nat_tests)

pairs_by : (minus : Bool) (at a b : ℕ) (rest : List ℕ) → class_of a ≡ classes.Other → (both : Bool) → (eqb a 47 && eqb b 47) ≡ both
    → Finds minus at (a ∷ b ∷ rest) (cond both (Skip (1 + prefix_len is_in_line rest)) (sign_or (number_in signs (a ∷ b ∷ [])) 1 (one_sign (a ∷ b ∷ rest))))
pairs_by minus at a b rest h true e = let p = and_parts (eqb a 47) (eqb b 47) e in comment_finds minus at a b rest (eqb_is a 47 p.0) (eqb_is b 47 p.1)
pairs_by minus at a b rest h false e =
    two_finds minus at a b rest h (λ c. let f = c.1 in let p : a ≡ 47 = cc in let q : b ≡ 47 = cc in let u : eqb a 47 ≡ true = ap (λ x. eqb x 47) p in let v : eqb b 47 ≡ true = ap (λ x. eqb x 47) q in cc)
    (number_in signs (a ∷ b ∷ [])) refl

other_finds : (minus : Bool) (at a : ℕ) (bs : List ℕ) → class_of a ≡ classes.Other → Finds minus at (a ∷ bs) (other_head (a ∷ bs))
other_finds minus at a [] h =
    one_finds a [] h minus at (λ c. let f = c.1 in cc) (λ n l m other f. absurd (omega arith)) (number_in signs (a ∷ [])) refl
other_finds minus at a (b ∷ rest) h = pairs_by minus at a b rest h (eqb a 47 && eqb b 47) refl

-- all heads

finds_by : (minus : Bool) (at b : ℕ) (bs : List ℕ) (k : Class) → class_of b ≡ k → Finds minus at (b ∷ bs) (head_by k minus (b ∷ bs) bs)
finds_by minus at b bs classes.Separator h = separator b bs (told_by b classes.Separator h)
finds_by minus at b bs classes.Letter h =
    (word_begins b bs h, word_limits minus (number_in keywords (take (prefix_len is_word_byte bs + 1) (b ∷ bs))) (take (prefix_len is_word_byte bs + 1) (b ∷ bs)))
finds_by minus at b bs classes.Digit h =
    let n = prefix_len is_digit bs in
    number_finds minus at (b ∷ bs) n (nat_le (number_value (take (n + 1) (b ∷ bs))) (greatest_number minus)) refl (number_begins b bs h)
finds_by minus at b bs classes.Quote h =
    subst (λ q. Finds minus at (q ∷ bs) (text_head (text_end false bs))) (sym (told_by b classes.Quote h)) (text_finds minus at bs (text_end false bs) refl (ended bs))
finds_by minus at b bs classes.Other h = other_finds minus at b bs h

pub finds : (minus : Bool) (at b : ℕ) (bs : List ℕ) → Finds minus at (b ∷ bs) (head_of minus (b ∷ bs))
unfolding head_of
finds minus at b bs = finds_by minus at b bs (class_of b) refl
