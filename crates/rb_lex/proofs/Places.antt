-- The outcome by rests, and the tokens or the fault by their places, are one.
use Rattle.std.proofs.Common.{◌≡◌, ℕ, zero, suc, ◌+◌, ◌-◌, ◌<◌, ◌≤◌, Bool, true, false, List, [], ◌∷◌, length, get_or, take, drop, refl, sym, ap, subst, ◌∙◌, arith, Ok, Err, IfOk, All, ◌↔◌, length-drop}
use Rattle.std.proofs.lemmas.List.{drop-drop, drop_all, append-nil}
use Rattle.std.proofs.lemmas.List.Sums.{prefix_len-le-length}
use Rattle.std.specs.Str.{IsUtf8, IsValidUpTo}
use Rattle.std.proofs.lemmas.Str.{utf8_valid_len-IsValidUpTo, utf8_valid_len-IsUtf8}
use Rattle.rb_trees.specs.declared.tokens.Token.{Token}
use Rattle.rb_trees.specs.declared.tokens.TokenKind.{TokenKind}
use Rattle.rb_trees.specs.declared.tokens.TokenKind.TheVariants as kinds
use Rattle.rb_trees.specs.declared.reading.LexError.{LexError}
use Rattle.rb_trees.specs.declared.reading.LexError.TheVariants.{TooLong, NotUtf8}
use Rattle.rb_meaning_bytes.specs.tokens.Bytes.{is_in_line}
use Rattle.rb_meaning_bytes.specs.tokens.Begins.{Begins, Skips, separator, comment}
use Rattle.rb_meaning_bytes.specs.tokens.Faults.{Faults, WithinLimits}
use Rattle.rb_meaning_bytes.specs.tokens.Lists.{Gap, none, Stands, IsToken, TokensBetween, AllWithinLimits, FaultStands, is_minus, ends_in_minus}
use Rattle.rb_meaning_bytes.specs.tokens.Lists as lists
use Rattle.rb_meaning_bytes.specs.tokens.Texts.{Outcome, Lexed, IsRefusal, longest_text, too_long, not_utf8, stands}
use Rattle.rb_meaning_bytes.specs.tokens.Lexes.{Lexes, with_front, done, skip, token, fault}
use Rattle.rb_trees.specs.Outcome.{Tells, Gives}
use Rattle.rb_trees.specs.Reading.{lex_refusal}
use Rattle.rb_trees.proofs.OutcomeWords.{tells_on, gives_one}
use Rattle.rb_lex.proofs.Unique.{one_outcome, begins_size}

-- from rests to places

abbrev Listed : Bool → ℕ → List ℕ → Outcome → Type 0
Listed minus at whole (Ok list) = TokensBetween whole at list (length whole) × AllWithinLimits minus whole list
Listed minus at whole (Err e) = FaultStands minus whole at e

gap_before : (whole : List ℕ) (from to : ℕ) (list : List Token) (n : ℕ) → Skips (drop from whole) n → TokensBetween whole (from + n) list to → TokensBetween whole from list to
gap_before whole from to [] n s g = lists.skip n s g
gap_before whole from to (t ∷ ts) n s g = (lists.skip n s g.0, g.1, g.2)

skip_listed : (minus : Bool) (at n : ℕ) (whole : List ℕ) (o : Outcome) → Skips (drop at whole) n → Listed minus (at + n) whole o → Listed minus at whole o
skip_listed minus at n whole (Ok list) s g = (gap_before whole at (length whole) list n s g.0, g.1)
skip_listed minus at n whole (Err e) s g = record { tokens = g.tokens; at = g.at; stand = gap_before whole at g.at g.tokens n s g.stand; limits = g.limits; fault = g.fault }

module _ (minus : Bool) (at n : ℕ) (whole : List ℕ) (kind : TokenKind) (b : Begins (drop at whole) kind n) (w : WithinLimits minus kind (take n (drop at whole))) where
  counted : n ≡ at + n - at
  counted = omega arith

  stands_here : Stands whole (record { kind = kind; start = at; end = at + n })
  stands_here = let m = begins_size (drop at whole) kind n b in record { rises = omega arith; begins = subst (Begins (drop at whole) kind) counted b }

  limits_here : WithinLimits minus kind (take (at + n - at) (drop at whole))
  limits_here = subst (λ k. WithinLimits minus kind (take k (drop at whole))) counted w

  token_listed : (o : Outcome) → Listed (is_minus kind) (at + n) whole o → Listed minus at whole (with_front (record { kind = kind; start = at; end = at + n } ∷ []) o)
  token_listed (Ok list) g = ((none, stands_here, g.0), (limits_here, g.1))
  token_listed (Err e) g =
      record { tokens = record { kind = kind; start = at; end = at + n } ∷ g.tokens; at = g.at; stand = (none, stands_here, g.stand); limits = (limits_here, g.limits); fault = g.fault }

skips_within : {text : List ℕ} {n : ℕ} → Skips text n → n ≤ length text
skips_within (separator b text h) = omega arith
skips_within (comment text) = let l = prefix_len-le-length is_in_line text in omega arith

listed : {minus : Bool} {at : ℕ} {text : List ℕ} {o : Outcome} → Lexes minus at text o → (whole : List ℕ) → at ≤ length whole → text ≡ drop at whole → Listed minus at whole o
listed (done {at = at}) whole l h =
    let k = ap length h in
    let e : at ≡ length whole = omega (arith, length-drop at whole) in
    (subst (Gap whole at) e none, tt)
listed (skip {minus} {at} {text} {outcome = o} n s d) whole l h =
    let m = skips_within s in
    let k = ap length h in
    skip_listed minus at n whole o (subst (λ t. Skips t n) h s) (listed d whole (omega (arith, length-drop at whole)) (ap (drop n) h ∙ drop-drop n at whole))
listed (token {minus} {at} {text} {outcome = o} kind n b w d) whole l h =
    let m = b.within in
    let k = ap length h in
    token_listed minus at n whole kind (subst (λ t. Begins t kind n) h b) (subst (λ t. WithinLimits minus kind (take n t)) h w) o
    (listed d whole (omega (arith, length-drop at whole)) (ap (drop n) h ∙ drop-drop n at whole))
listed (fault {minus} {at} {text} {error} f) whole l h = record { tokens = []; at = at; stand = none; limits = tt; fault = subst (λ t. Faults minus at t error) h f }

-- from places to rests

gap_lexes : {whole : List ℕ} {from to : ℕ} → Gap whole from to → (minus : Bool) (o : Outcome) → Lexes minus to (drop to whole) o → Lexes minus from (drop from whole) o
gap_lexes none minus o d = d
gap_lexes {whole} (lists.skip {from} {to} n s g) minus o d =
    skip n s (subst (λ t. Lexes minus (from + n) t o) (sym (drop-drop n from whole)) (gap_lexes g minus o d))

token_lexes : (minus : Bool) (whole : List ℕ) (t : Token) (o : Outcome) → Stands whole t → WithinLimits minus t.kind (take (t.end - t.start) (drop t.start whole))
    → Lexes (is_minus t.kind) t.end (drop t.end whole) o → Lexes minus t.start (drop t.start whole) (with_front (t ∷ []) o)
token_lexes minus whole t o s w d =
    let r = s.rises in
    let e : t.end ≡ t.start + (t.end - t.start) = omega arith in
    let i : drop t.end whole ≡ drop (t.end - t.start) (drop t.start whole) = ap (λ n. drop n whole) e ∙ sym (drop-drop (t.end - t.start) t.start whole) in
    let f : Lexes (is_minus t.kind) (t.start + (t.end - t.start)) (drop (t.end - t.start) (drop t.start whole)) o =
    subst (λ u. Lexes (is_minus t.kind) (t.start + (t.end - t.start)) u o) i (subst (λ n. Lexes (is_minus t.kind) n (drop t.end whole) o) e d) in
    subst (λ n. Lexes minus t.start (drop t.start whole) (with_front (record { kind = t.kind; start = t.start; end = n } ∷ []) o)) (sym e) (token t.kind (t.end - t.start) s.begins w f)

front_nothing : (o : Outcome) → o ≡ with_front [] o
front_nothing (Ok list) = refl
front_nothing (Err e) = refl

front_one : (t : Token) (ts : List Token) (o : Outcome) → with_front (t ∷ []) (with_front ts o) ≡ with_front (t ∷ ts) o
front_one t ts (Ok list) = refl
front_one t ts (Err e) = refl

between_lexes : (minus : Bool) (whole : List ℕ) (from to : ℕ) (list : List Token) (o : Outcome) → TokensBetween whole from list to → AllWithinLimits minus whole list
    → Lexes (ends_in_minus minus list) to (drop to whole) o → Lexes minus from (drop from whole) (with_front list o)
between_lexes minus whole from to [] o g w d = subst (Lexes minus from (drop from whole)) (front_nothing o) (gap_lexes g minus o d)
between_lexes minus whole from to (t ∷ ts) o g w d =
    subst (Lexes minus from (drop from whole)) (front_one t ts o)
    (gap_lexes g.0 minus _ (token_lexes minus whole t _ g.1 w.0 (between_lexes (is_minus t.kind) whole t.end to ts o g.2 w.1 d)))

list_lexes : (whole : List ℕ) (list : List Token) → TokensBetween whole 0 list (length whole) → AllWithinLimits false whole list → Lexes false 0 whole (Ok list)
list_lexes whole list g w =
    subst (λ ts. Lexes false 0 whole (Ok ts)) (append-nil list)
    (between_lexes false whole 0 (length whole) list (Ok []) g w
    (subst (λ t. Lexes (ends_in_minus false list) (length whole) t (Ok [])) (sym (drop_all (length whole) whole (omega arith))) done))

fault_lexes : (whole : List ℕ) (e : LexError) → FaultStands false whole 0 e → Lexes false 0 whole (Err e)
fault_lexes whole e s = between_lexes false whole 0 s.at s.tokens (Err e) s.stand s.limits (fault s.fault)

-- whole texts, by rests

data Ordered (text : List ℕ) : Outcome → Type 0 where
  long : longest_text < length text → Ordered text (Err (TooLong longest_text))
  not_text : (at : ℕ) → length text ≤ longest_text → IsValidUpTo text at → Ordered text (Err (NotUtf8 at))
  read : {outcome : Outcome} → length text ≤ longest_text → IsUtf8 text → Lexes false 0 text outcome → Ordered text outcome

refusal_ordered : {text : List ℕ} {e : LexError} → IsRefusal text e → Ordered text (Err e)
refusal_ordered (too_long l) = long l
refusal_ordered (not_utf8 at l v) = not_text at l v
refusal_ordered {text} (stands {error} l u s) = read l u (fault_lexes text error s)

ordered : (text : List ℕ) (o : Outcome) → Lexed text o → Ordered text o
ordered text (Ok list) t = read t.short t.utf8 (list_lexes text list t.stand t.limits)
ordered text (Err e) r = refusal_ordered r

pub read_lexed : (text : List ℕ) (o : Outcome) → length text ≤ longest_text → IsUtf8 text → Lexes false 0 text o → Lexed text o
read_lexed text (Ok list) l u d = let g = listed d text (omega arith) refl in record { short = l; utf8 = u; stand = g.0; limits = g.1 }
read_lexed text (Err e) l u d = stands l u (listed d text (omega arith) refl)

not_both : (text : List ℕ) (at : ℕ) → IsValidUpTo text at → ¬ IsUtf8 text
not_both text at v u = let l = v.short in let m = utf8_valid_len-IsValidUpTo text at v in let n = utf8_valid_len-IsUtf8 text u in omega arith

same_place : (text : List ℕ) (one other : ℕ) → IsValidUpTo text one → IsValidUpTo text other → one ≡ other
same_place text one other v w = sym (utf8_valid_len-IsValidUpTo text one v) ∙ utf8_valid_len-IsValidUpTo text other w

one_ordered : {text : List ℕ} {o p : Outcome} → Ordered text o → Ordered text p → o ≡ p
one_ordered (long l) (long m) = refl
one_ordered (long l) (not_text at m v) = absurd (omega arith)
one_ordered (long l) (read m u d) = absurd (omega arith)
one_ordered (not_text at m v) (long l) = absurd (omega arith)
one_ordered {text} (not_text at m v) (not_text place n w) = ap (λ k. Err (NotUtf8 k)) (same_place text at place v w)
one_ordered {text} (not_text at m v) (read n u d) = absurd (not_both text at v u)
one_ordered (read m u d) (long l) = absurd (omega arith)
one_ordered {text} (read m u d) (not_text at n v) = absurd (not_both text at v u)
one_ordered {text} (read {outcome = o} m u d) (read {outcome = p} n v e) = one_outcome false 0 text o p d e

pub one_lexed : (text : List ℕ) (o p : Outcome) → Lexed text o → Lexed text p → o ≡ p
one_lexed text o p d e = one_ordered (ordered text o d) (ordered text p e)

-- by places and by rests is the same

ordered_read : {text : List ℕ} {o : Outcome} → Ordered text o → length text ≤ longest_text → IsUtf8 text → Lexes false 0 text o
ordered_read (long l) m u = absurd (omega arith)
ordered_read {text} (not_text at n v) m u = absurd (not_both text at v u)
ordered_read (read n v d) m u = d

pub both_ways : (text : List ℕ) → length text ≤ longest_text → IsUtf8 text → (o : Outcome) → Lexed text o ↔ Lexes false 0 text o
both_ways text l u o = (λ d. ordered_read (ordered text o d) l u, λ d. read_lexed text o l u d)

-- what is answered, from rest to rest and then by places

abbrev pub Told : Outcome → List ℕ → Type 0
Told answer text = Tells (λ (tokens : List Token). tokens) lex_refusal answer (Lexed text)

pub told : (text : List ℕ) (answer : Outcome) → length text ≤ longest_text → IsUtf8 text → Tells (λ (tokens : List Token). tokens) lex_refusal answer (Lexes false 0 text) → Told answer text
told text answer l u d = tells_on (λ tokens. tokens) lex_refusal (Lexes false 0 text) (Lexed text) (λ o e. read_lexed text o l u e) answer d

pub given : (text : List ℕ) (answer : Outcome) → Told answer text → (outcome : Outcome) → Lexed text outcome → Gives (λ (tokens : List Token). tokens) lex_refusal answer outcome
given text answer d outcome e = gives_one (λ tokens. tokens) lex_refusal (Lexed text) outcome (λ o h. one_lexed text outcome o e h) answer d

-- the tokens one by one

wider : (minus : Bool) (kind : TokenKind) (w : List ℕ) → WithinLimits minus kind w → WithinLimits true kind w
wider true kind w l = l
wider false kinds.Number w l = omega arith
wider false kinds.TextLit w l = l
wider false kinds.Name w l = l
wider false (kinds.Keyword n) w l = l
wider false (kinds.Sign n) w l = l

all_first : (P : Token → Type 0) (t : Token) (ts : List Token) → P t → All P ts → All P (t ∷ ts)
all_first P t ts p a = λ k d l. by k d l
  where
    by : (k : ℕ) (d : Token) → k < length (t ∷ ts) → P (get_or (t ∷ ts) k d)
    by zero d l = p
    by (suc k) d l = a k d (omega arith)

each_is : (minus : Bool) (whole : List ℕ) (from to : ℕ) (list : List Token) → TokensBetween whole from list to → AllWithinLimits minus whole list → All (λ t. IsToken whole t) list
each_is minus whole from to [] g w = λ k d l. absurd (omega arith)
each_is minus whole from to (t ∷ ts) g w =
    all_first (λ u. IsToken whole u) t ts (record { stands = g.1; limits = wider minus t.kind (take (t.end - t.start) (drop t.start whole)) w.0 })
    (each_is (is_minus t.kind) whole t.end to ts g.2 w.1)

pub all_told : (text : List ℕ) (answer : Outcome) → Told answer text → IfOk answer (λ list. All (λ t. IsToken text t) list)
all_told text (Ok list) t = each_is false text 0 (length text) list t.stand t.limits
all_told text (Err e) t = tt

-- a token's slice ends within the text
pub stands_within : (text : List ℕ) (t : Token) → Stands text t → t.end ≤ length text
stands_within text t s = let r = s.rises in let w = s.begins.within in omega (arith, length-drop t.start text)
