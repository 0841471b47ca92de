-- A text has one outcome.
use Rattle.std.proofs.Common.{◌≡◌, ℕ, zero, suc, ◌+◌, ◌<◌, ◌≤◌, Bool, false, List, [], ◌∷◌, ◌++◌, length, take, drop, refl, sym, ap, subst, ◌∙◌, arith, Ok, Err, Option, Some, None, ◌⊎◌, inl, inr, length-drop}
use Rattle.std.specs.List.{prefix_len}
use mathlib.Core.Logic.{⊎_elim}
use Rattle.rb_trees.specs.declared.tokens.TokenKind.{TokenKind}
use Rattle.rb_trees.specs.declared.tokens.TokenKind.TheVariants as kinds
use Rattle.rb_trees.specs.declared.reading.LexError.{LexError}
use Rattle.rb_trees.specs.declared.reading.LexError.TheVariants.{BadByte, OpenText, NumberTooLarge, TooLong, NotUtf8, Memory}
use Rattle.rb_meaning_bytes.specs.tokens.Bytes.{is_in_line}
use Rattle.rb_meaning_bytes.specs.tokens.Values.{number_value, text_value}
use Rattle.rb_meaning_bytes.specs.tokens.Forms.{Form}
use Rattle.rb_meaning_bytes.specs.tokens.Begins.{Begins, Skips, separator, comment}
use Rattle.rb_meaning_bytes.specs.tokens.Faults.{Faults, WithinLimits, greatest_number, longest_value, number_too_large, text_too_long, open_text, bad_escape, bad_byte}
use Rattle.rb_meaning_bytes.specs.tokens.Lexes.{Lexes, with_front, done, skip, token, fault}
use Rattle.rb_meaning_bytes.specs.tokens.Lists.{is_minus}
use Rattle.rb_meaning_bytes.specs.tokens.Texts.{Outcome}
use Rattle.rb_lex.specs.declared.bytes.Class.TheVariants as classes
use Rattle.rb_lex.specs.declared.literals.End.TheVariants.{Closes}
use Rattle.rb_lex.specs.declared.heads.Head.{Head}
use Rattle.rb_lex.specs.declared.heads.Head.TheVariants.{Skip, Take, Large, Long, Open, Bad}
use Rattle.rb_lex.specs.Classes.{class_of}
use Rattle.rb_lex.specs.Ends.{text_end}
use Rattle.rb_lex.specs.Heads.{head_of, head_by, text_head}
use Rattle.rb_lex.proofs.Slices.{shows_at, slash_class, quote_class, separator_class, not_empty, one_form}
use Rattle.rb_lex.proofs.Ended.{open_never, body_breaks}
use Rattle.rb_lex.proofs.Found.{Finds, finds, literal_end}
use Rattle.rb_lex.proofs.Turns.{finds_some}

-- tokens at the beginning of a text

not_less : {text : List ℕ} {one other : TokenKind} {n m : ℕ} → Begins text one n → Begins text other m → ¬ (n < m)
not_less {other = other} {m = m} b d l = b.longest m l d.within other d.formed

neither : (n m : ℕ) → ¬ (n < m) → ¬ (m < n) → n ≡ m
neither n m h g = omega arith

pub one_size : {text : List ℕ} {one other : TokenKind} {n m : ℕ} → Begins text one n → Begins text other m → n ≡ m
one_size {n = n} {m = m} b d = neither n m (not_less b d) (not_less d b)

pub one_kind : {text : List ℕ} {one other : TokenKind} {n m : ℕ} → Begins text one n → Begins text other m → one ≡ other
one_kind {text} {one} {other} {n} {m} b d = one_form (take n text) one other b.formed (subst (λ k. Form other (take k text)) (sym (one_size b d)) d.formed)

-- the slice behind the first byte
pub record First (b : ℕ) (bs : List ℕ) (kind : TokenKind) (size : ℕ) : Type 0 where
  pub count : ℕ
  pub is : size ≡ suc count
  pub within : count ≤ length bs
  pub formed : Form kind (b ∷ take count bs)

pub first_slice : (b : ℕ) (bs : List ℕ) (kind : TokenKind) (size : ℕ) → Begins (b ∷ bs) kind size → First b bs kind size
first_slice b bs kind zero d = absurd (not_empty kind d.formed)
first_slice b bs kind (suc n) d = record { count = n; is = refl; within = (let w = d.within in omega arith); formed = d.formed }

no_slice : (kind : TokenKind) (size : ℕ) → ¬ Begins [] kind size
no_slice kind zero d = not_empty kind d.formed
no_slice kind (suc n) d = not_empty kind d.formed

pub begins_some : (text : List ℕ) (kind : TokenKind) (size : ℕ) → Begins text kind size → 0 < length text
begins_some [] kind size d = absurd (no_slice kind size d)
begins_some (b ∷ bs) kind size d = omega arith

pub begins_size : (text : List ℕ) (kind : TokenKind) (size : ℕ) → Begins text kind size → 0 < size
begins_size [] kind size d = absurd (no_slice kind size d)
begins_size (b ∷ bs) kind size d = let f = first_slice b bs kind size d in let i = f.is in omega arith

pub skip_or_begin : {text : List ℕ} {n : ℕ} → Skips text n → (kind : TokenKind) (size : ℕ) → ¬ Begins text kind size
skip_or_begin (separator b text h) kind size d =
    let f = first_slice b text kind size d in shows_at kind classes.Separator b (take f.count text) (separator_class b h) f.formed
skip_or_begin (comment text) kind size d = d.no_comment (text, refl)

-- a token that begins with a quote is a literal that closes
literal_closes : (bs : List ℕ) (kind : TokenKind) (size : ℕ) → Begins (34 ∷ bs) kind size → (k : ℕ) × (more : ℕ) × (text_end false bs ≡ Closes k more)
literal_closes bs kind size d =
    let f = first_slice 34 bs kind size d in
    let l = literal_end bs f.count f.within (shows_at kind classes.Quote 34 (take f.count bs) quote_class f.formed).1 in
    (l.0, l.1, l.3)

-- what a fault tells

pub record Quoted (text : List ℕ) : Type 0 where
  pub tail : List ℕ
  pub is : text ≡ 34 ∷ tail
  pub never : (k size : ℕ) → ¬ (text_end false tail ≡ Closes k size)

pub record Begun (text : List ℕ) (kind : TokenKind) (P : List ℕ → Type 0) : Type 0 where
  pub size : ℕ
  pub begins : Begins text kind size
  pub fact : P (take size text)

abbrev pub What : Bool → ℕ → List ℕ → LexError → Type 0
What minus at text (NumberTooLarge k) = Begun text kinds.Number (λ w. greatest_number minus < number_value w)
What minus at text (TooLong k) = Begun text kinds.TextLit (λ w. longest_value < length (text_value w))
What minus at text (OpenText k) = Quoted text
What minus at text (BadByte k) = Quoted text ⊎ ((k ≡ at) × ((kind : TokenKind) (size : ℕ) → ¬ Begins text kind size))
What minus at text (NotUtf8 k) = Unit {0}
What minus at text Memory = Unit {0}

what : {minus : Bool} {at : ℕ} {text : List ℕ} {e : LexError} → Faults minus at text e → What minus at text e
what (number_too_large size b l) = record { size = size; begins = b; fact = l }
what (text_too_long size b l) = record { size = size; begins = b; fact = l }
what (open_text {text = text} rest g l) = record { tail = text; is = refl; never = λ k size h. (let n = open_never g l in cc) }
what (bad_escape body more rest d p g) = inl (record { tail = body ++ 92 ∷ more; is = refl; never = λ k size h. (let n = body_breaks body more rest d p g in cc) })
what (bad_byte b text q s d) = inr (refl, d)

quoted_begin : (text : List ℕ) (kind : TokenKind) (size : ℕ) → Quoted text → ¬ Begins text kind size
quoted_begin text kind size q d = let c = literal_closes q.tail kind size (subst (λ t. Begins t kind size) q.is d) in q.never c.0 c.1 c.2

-- what a token at the beginning tells of the head that the code finds
abbrev AtHead : Bool → List ℕ → TokenKind → ℕ → Head → Type 0
AtHead minus text kind size (Take other n) = (other ≡ kind) × (n + 1 ≡ size) × WithinLimits minus kind (take size text)
AtHead minus text kind size Large = (kinds.Number ≡ kind) × (greatest_number minus < number_value (take size text))
AtHead minus text kind size Long = (kinds.TextLit ≡ kind) × (longest_value < length (text_value (take size text)))
AtHead minus text kind size (Skip n) = ⊥
AtHead minus text kind size Open = ⊥
AtHead minus text kind size (Bad n) = ⊥

limits_moved : (minus : Bool) (text : List ℕ) (one other : TokenKind) (n m : ℕ) → one ≡ other → n ≡ m → WithinLimits minus one (take n text) → WithinLimits minus other (take m text)
limits_moved minus text one other n m h g w = subst (λ k. WithinLimits minus k (take m text)) h (subst (λ k. WithinLimits minus one (take k text)) g w)

at_head : (minus : Bool) (at : ℕ) (text : List ℕ) (kind : TokenKind) (size : ℕ) → Begins text kind size → (h : Head) → Finds minus at text h → AtHead minus text kind size h
at_head minus at text kind size d (Skip n) f = skip_or_begin f kind size d
at_head minus at text kind size d (Take other n) f =
    (one_kind f.0 d, one_size f.0 d, limits_moved minus text other kind (n + 1) size (one_kind f.0 d) (one_size f.0 d) f.1)
at_head minus at text kind size d Large f =
    let w = what f in (one_kind w.begins d, subst (λ k. greatest_number minus < number_value (take k text)) (one_size w.begins d) w.fact)
at_head minus at text kind size d Long f =
    let w = what f in (one_kind w.begins d, subst (λ k. longest_value < length (text_value (take k text))) (one_size w.begins d) w.fact)
at_head minus at text kind size d Open f = quoted_begin text kind size (what f) d
at_head minus at text kind size d (Bad n) f = ⊎_elim (λ q. quoted_begin text kind size q d) (λ w. w.1 kind size d) (what f.fault)

begins_head : (minus : Bool) (at : ℕ) (text : List ℕ) (kind : TokenKind) (size : ℕ) → Begins text kind size → AtHead minus text kind size (head_of minus text)
begins_head minus at text kind size d = at_head minus at text kind size d (head_of minus text) (finds_some minus at text (begins_some text kind size d))

-- the head, from what stands there

head_at_quote : (minus : Bool) (bs : List ℕ) → head_of minus (34 ∷ bs) ≡ text_head (text_end false bs)
unfolding head_of
head_at_quote minus bs = ap (λ k. head_by k minus (34 ∷ bs) bs) quote_class

head_at_slashes : (minus : Bool) (bs : List ℕ) → head_of minus (47 ∷ 47 ∷ bs) ≡ Skip (1 + prefix_len is_in_line bs)
unfolding head_of
head_at_slashes minus bs = ap (λ k. head_by k minus (47 ∷ 47 ∷ bs) (47 ∷ bs)) slash_class

head_at_separator : (minus : Bool) (b : ℕ) (bs : List ℕ) → class_of b ≡ classes.Separator → head_of minus (b ∷ bs) ≡ Skip 0
unfolding head_of
head_at_separator minus b bs h = ap (λ k. head_by k minus (b ∷ bs) bs) h

-- a size that isn't zero, by the count of the bytes behind the first
pub record Count (size : ℕ) (P : ℕ → Type 0) : Type 0 where
  pub count : ℕ
  pub is : count + 1 ≡ size
  pub fact : P count

skip_head : {text : List ℕ} {size : ℕ} → Skips text size → (minus : Bool) → Count size (λ n. head_of minus text ≡ Skip n)
skip_head (separator b text h) minus = record { count = 0; is = refl; fact = head_at_separator minus b text (separator_class b h) }
skip_head (comment text) minus = record { count = 1 + prefix_len is_in_line text; is = omega arith; fact = head_at_slashes minus text }

take_by : (minus : Bool) (text : List ℕ) (kind : TokenKind) (size : ℕ) (h : Head) → AtHead minus text kind size h → WithinLimits minus kind (take size text) → Count size (λ n. h ≡ Take kind n)
take_by minus text kind size (Take other n) a w = record { count = n; is = a.1; fact = ap (λ k. Take k n) a.0 }
take_by minus text kind size Large a w = let v = subst (λ k. WithinLimits minus k (take size text)) (sym a.0) w in absurd (omega (arith, a.1))
take_by minus text kind size Long a w = let v = subst (λ k. WithinLimits minus k (take size text)) (sym a.0) w in absurd (omega (arith, a.1))
take_by minus text kind size (Skip n) a w = absurd a
take_by minus text kind size Open a w = absurd a
take_by minus text kind size (Bad n) a w = absurd a

abbrev pub fault_of : ℕ → Head → Option LexError
fault_of at (Skip n) = None
fault_of at (Take kind n) = None
fault_of at Large = Some (NumberTooLarge at)
fault_of at Long = Some (TooLong at)
fault_of at Open = Some (OpenText at)
fault_of at (Bad n) = Some (BadByte (at + n))

large_by : (minus : Bool) (at : ℕ) (text : List ℕ) (size : ℕ) (h : Head) → AtHead minus text kinds.Number size h → greatest_number minus < number_value (take size text) → fault_of at h ≡ Some (NumberTooLarge at)
large_by minus at text size (Take other n) a l = let w = a.2 in absurd (omega arith)
large_by minus at text size Large a l = refl
large_by minus at text size Long a l = let e = a.0 in cc
large_by minus at text size (Skip n) a l = absurd a
large_by minus at text size Open a l = absurd a
large_by minus at text size (Bad n) a l = absurd a

long_by : (minus : Bool) (at : ℕ) (text : List ℕ) (size : ℕ) (h : Head) → AtHead minus text kinds.TextLit size h → longest_value < length (text_value (take size text)) → fault_of at h ≡ Some (TooLong at)
long_by minus at text size (Take other n) a l = let w = a.2 in absurd (omega arith)
long_by minus at text size Large a l = let e = a.0 in cc
long_by minus at text size Long a l = refl
long_by minus at text size (Skip n) a l = absurd a
long_by minus at text size Open a l = absurd a
long_by minus at text size (Bad n) a l = absurd a

bad_by : (minus : Bool) (at b : ℕ) (text : List ℕ) → ¬ (b ≡ 34) → ((size : ℕ) → ¬ Skips (b ∷ text) size) → ((kind : TokenKind) (size : ℕ) → ¬ Begins (b ∷ text) kind size)
    → (h : Head) → Finds minus at (b ∷ text) h → fault_of at h ≡ Some (BadByte at)
bad_by minus at b text q s d (Skip n) f = absurd (s (n + 1) f)
bad_by minus at b text q s d (Take kind n) f = absurd (d kind (n + 1) f.0)
bad_by minus at b text q s d Large f = let w = what f in absurd (d kinds.Number w.size w.begins)
bad_by minus at b text q s d Long f = let w = what f in absurd (d kinds.TextLit w.size w.begins)
bad_by minus at b text q s d Open f = let w = what f in let i = w.is in let e : b ≡ 34 = cc in absurd (q e)
bad_by minus at b text q s d (Bad n) f =
    ⊎_elim (λ w. let i = w.is in let e : b ≡ 34 = cc in absurd (q e)) (λ w. ap (λ k. Some (BadByte k)) (sym f.is ∙ w.0)) (what f.fault)

fault_head : {minus : Bool} {at : ℕ} {text : List ℕ} {e : LexError} → Faults minus at text e → fault_of at (head_of minus text) ≡ Some e
fault_head (number_too_large {minus} {at} {text} size b l) = large_by minus at text size (head_of minus text) (begins_head minus at text kinds.Number size b) l
fault_head (text_too_long {minus} {at} {text} size b l) = long_by minus at text size (head_of minus text) (begins_head minus at text kinds.TextLit size b) l
fault_head (open_text {minus} {at} {text} rest g l) = ap (fault_of at) (head_at_quote minus text ∙ ap text_head (open_never g l))
fault_head (bad_escape {minus} {at} body more rest d p g) =
    ap (fault_of at) (head_at_quote minus (body ++ 92 ∷ more) ∙ ap text_head (body_breaks body more rest d p g)) ∙ ap (λ k. Some (BadByte (at + k))) (let n : length body + 1 ≡ 1 + length body = omega arith in n)
fault_head (bad_byte {minus} {at} b text q s d) = bad_by minus at b text q s d (head_of minus (b ∷ text)) (finds minus at b text)

-- one step of the outcome, by the head

abbrev Next : Bool → ℕ → List ℕ → Head → Outcome → Type 0
Next minus at text (Skip n) o = Lexes minus (at + (n + 1)) (drop (n + 1) text) o
Next minus at text (Take kind n) o =
    (p : Outcome) × Lexes (is_minus kind) (at + (n + 1)) (drop (n + 1) text) p × (o ≡ with_front (record { kind = kind; start = at; end = at + (n + 1) } ∷ []) p)
Next minus at text Large o = o ≡ Err (NumberTooLarge at)
Next minus at text Long o = o ≡ Err (TooLong at)
Next minus at text Open o = o ≡ Err (OpenText at)
Next minus at text (Bad n) o = o ≡ Err (BadByte (at + n))

next_fault : (minus : Bool) (at : ℕ) (text : List ℕ) (e : LexError) (h : Head) → fault_of at h ≡ Some e → Next minus at text h (Err e)
next_fault minus at text e (Skip n) f = cc
next_fault minus at text e (Take kind n) f = cc
next_fault minus at text e Large f = cc
next_fault minus at text e Long f = cc
next_fault minus at text e Open f = cc
next_fault minus at text e (Bad n) f = cc

next : {minus : Bool} {at : ℕ} {text : List ℕ} {o : Outcome} → Lexes minus at text o → 0 < length text → Next minus at text (head_of minus text) o
next done l = absurd (omega arith)
next (skip {minus} {at} {text} {outcome = o} size s d) l =
    let k = skip_head s minus in
    subst (λ h. Next minus at text h o) (sym k.fact) (subst (λ n. Lexes minus (at + n) (drop n text) o) (sym k.is) d)
next (token {minus} {at} {text} {outcome = o} kind size b w d) l =
    let k = take_by minus text kind size (head_of minus text) (begins_head minus at text kind size b) w in
    subst (λ h. Next minus at text h (with_front (record { kind = kind; start = at; end = at + size } ∷ []) o)) (sym k.fact)
    (o, subst (λ n. Lexes (is_minus kind) (at + n) (drop n text) o) (sym k.is) d, ap (λ n. with_front (record { kind = kind; start = at; end = at + n } ∷ []) o) (sym k.is))
next (fault {minus} {at} {text} {error = e} f) l = next_fault minus at text e (head_of minus text) (fault_head f)

skips_some : {text : List ℕ} {n : ℕ} → Skips text n → 0 < length text
skips_some (separator b text h) = omega arith
skips_some (comment text) = omega arith

faults_some : {minus : Bool} {at : ℕ} {text : List ℕ} {e : LexError} → Faults minus at text e → 0 < length text
faults_some (number_too_large {text = text} size b l) = begins_some text kinds.Number size b
faults_some (text_too_long {text = text} size b l) = begins_some text kinds.TextLit size b
faults_some (open_text rest g l) = omega arith
faults_some (bad_escape body more rest d p g) = omega arith
faults_some (bad_byte b text q s d) = omega arith

at_end : {minus : Bool} {at : ℕ} {text : List ℕ} {o : Outcome} → Lexes minus at text o → length text ≡ 0 → o ≡ Ok []
at_end done l = refl
at_end (skip size s d) l = let m = skips_some s in absurd (omega arith)
at_end (token {text = text} kind size b w d) l = let m = begins_some text kind size b in absurd (omega arith)
at_end (fault f) l = let m = faults_some f in absurd (omega arith)

abbrev Same : ℕ → Type 0
Same fuel = (minus : Bool) (at : ℕ) (text : List ℕ) (o p : Outcome) → length text < fuel → Lexes minus at text o → Lexes minus at text p → o ≡ p

same_next : (fuel : ℕ) → Same fuel → (minus : Bool) (at b : ℕ) (bs : List ℕ) (o p : Outcome) → length bs < fuel → (h : Head) → Next minus at (b ∷ bs) h o → Next minus at (b ∷ bs) h p → o ≡ p
same_next fuel s minus at b bs o p l (Skip n) d e = s minus (at + (n + 1)) (drop (n + 1) (b ∷ bs)) o p (omega (arith, length-drop (n + 1) (b ∷ bs))) d e
same_next fuel s minus at b bs o p l (Take kind n) d e =
    let i = s (is_minus kind) (at + (n + 1)) (drop (n + 1) (b ∷ bs)) d.0 e.0 (omega (arith, length-drop (n + 1) (b ∷ bs))) d.1 e.1 in
    d.2 ∙ ap (with_front (record { kind = kind; start = at; end = at + (n + 1) } ∷ [])) i ∙ sym e.2
same_next fuel s minus at b bs o p l Large d e = d ∙ sym e
same_next fuel s minus at b bs o p l Long d e = d ∙ sym e
same_next fuel s minus at b bs o p l Open d e = d ∙ sym e
same_next fuel s minus at b bs o p l (Bad n) d e = d ∙ sym e

same : (fuel : ℕ) → Same fuel
same zero minus at text o p l d e = absurd (omega arith)
same (suc fuel) minus at [] o p l d e = at_end d refl ∙ sym (at_end e refl)
same (suc fuel) minus at (b ∷ bs) o p l d e = same_next fuel (same fuel) minus at b bs o p (omega arith) (head_of minus (b ∷ bs)) (next d (omega arith)) (next e (omega arith))

pub one_outcome : (minus : Bool) (at : ℕ) (text : List ℕ) (o p : Outcome) → Lexes minus at text o → Lexes minus at text p → o ≡ p
one_outcome minus at text o p d e = same (length text + 1) minus at text o p (omega arith) d e
