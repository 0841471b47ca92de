-- What the table predicts is the production whose spelling comes.
use Rattle.std.proofs.Common.{◌≡◌, ℕ, ◌<◌, Bool, true, false, cond, List, [], ◌∷◌, refl, ap, sym, ◌∙◌, subst, Option, Some, ltb, ltb-true, ◌&&◌, not}
use Rattle.std.proofs.lemmas.Bool.{not-true, and_parts, false_from_ne_true}
use Rattle.rb_trees.specs.declared.tokens.Token.{Token}
use Rattle.rb_trees.specs.declared.tokens.TokenKind.{TokenKind}
use Rattle.rb_trees.specs.Kinds.{is_one_of}
use Rattle.rb_meaning_bytes.specs.grammar.Symbols.{Symbol, Nonterminal}
use Rattle.rb_parse.specs.Table.{Choice, begins, may_be_empty, all_begin, cases, otherwise, chosen, predict}
use Rattle.rb_parse.specs.Reading.{rank}
use Rattle.rb_parse.proofs.KindLists.{within, apart, one_within, one_apart, one_here, one_there}
use Rattle.rb_parse.proofs.Checks.{bars, implies, implied, all_empty, ranked, fitting, ending, Sound, sound_at, all_sound, any_begin, told_apart, checked}
use Rattle.rb_parse.proofs.Listed.{In, here, there, last}

pub some_same : {source : List ℕ} {p : Nonterminal} (a b : Choice source p) → Some a ≡ Some b → a ≡ b
some_same a b h = cc

sound_in : {source : List ℕ} {p : Nonterminal} {c : Choice source p} {cs : List (Choice source p)} {d : Option (Choice source p)} → In c cs d → all_sound p cs d ≡ true → sound_at p c.parts ≡ true
sound_in {p = p} {c = c} (here {cs} {d}) h = (and_parts (sound_at p c.parts) (all_sound p cs d) h).0
sound_in {p = p} (there {b} {cs} {d} i) h = sound_in i (and_parts (sound_at p b.parts) (all_sound p cs d) h).1
sound_in last h = h

split_sound : (p : Nonterminal) (l : List Symbol) → sound_at p l ≡ true → Sound p l
split_sound p l h =
    let a = ranked (rank p) l in
    let b = implies (all_empty l) (may_be_empty p) in
    let c = within (all_begin l) (begins p) in
    let d = fitting l in
    let e = ending (bars p) l in
    let h1 = (and_parts a (b && (c && (d && e))) h).1 in
    let h2 = (and_parts b (c && (d && e)) h1).1 in
    let h3 = (and_parts c (d && e) h2).1 in
    record { ranks = (and_parts a (b && (c && (d && e))) h).0; empties = (and_parts b (c && (d && e)) h1).0; firsts = (and_parts c (d && e) h2).0; fits = (and_parts d e h3).0; ends = (and_parts d e h3).1 }

-- what the checks of a part say
pub record Checked (source : List ℕ) (p : Nonterminal) : Type 0 where
  pub all : all_sound p (cases source p) (otherwise source p) ≡ true
  pub told : told_apart (cases source p) (otherwise source p) ≡ true
  pub bared : implies (may_be_empty p) (within (begins p) (bars p)) ≡ true
  pub small : rank p < 16

pub check_of : (source : List ℕ) (p : Nonterminal) → Checked source p
check_of source p =
    let h = checked source p in
    let a = all_sound p (cases source p) (otherwise source p) in
    let b = told_apart (cases source p) (otherwise source p) in
    let c = implies (may_be_empty p) (within (begins p) (bars p)) in
    let d = ltb (rank p) 16 in
    let h1 = (and_parts a (b && (c && d)) h).1 in
    let h2 = (and_parts b (c && d) h1).1 in
    record { all = (and_parts a (b && (c && d)) h).0; told = (and_parts b (c && d) h1).0; bared = (and_parts c d h2).0; small = ltb-true (rank p) 16 (and_parts c d h2).1 }

pub sound : {source : List ℕ} {p : Nonterminal} (c : Choice source p) → In c (cases source p) (otherwise source p) → Sound p c.parts
sound {source} {p} c i = split_sound p c.parts (sound_in i (check_of source p).all)

last_in : {source : List ℕ} {p : Nonterminal} (c : Choice source p) (cs : List (Choice source p)) (d : Option (Choice source p)) → d ≡ Some c → In c cs d
last_in c [] d h = subst (In c []) (sym h) last
last_in c (b ∷ cs) d h = there (last_in c cs d h)

chosen_in : {source : List ℕ} {p : Nonterminal} (k : TokenKind) (c : Choice source p) (cs : List (Choice source p)) (d : Option (Choice source p)) → chosen k cs d ≡ Some c → In c cs d
chosen_in k c [] d h = last_in c [] d h
chosen_in k c (b ∷ cs) d h = go (is_one_of k (all_begin b.parts)) h (chosen_in k c cs d)
  where
    go : (e : Bool) → cond e (Some b) (chosen k cs d) ≡ Some c → (chosen k cs d ≡ Some c → In c cs d) → In c (b ∷ cs) d
    go true h f = subst (λ x. In c (x ∷ cs) d) (sym (some_same b c h)) here
    go false h f = there (f h)

pub predict_in : {source : List ℕ} {p : Nonterminal} (c : Choice source p) (ts : List Token) → predict source p ts ≡ Some c → In c (cases source p) (otherwise source p)
predict_in {source} {p} c [] h = last_in c (cases source p) (otherwise source p) h
predict_in {source} {p} c (t ∷ ts) h = chosen_in t.kind c (cases source p) (otherwise source p) h

begins_in : {source : List ℕ} {p : Nonterminal} {c : Choice source p} {cs : List (Choice source p)} {d : Option (Choice source p)} (k : TokenKind) → In c cs d → is_one_of k (all_begin c.parts) ≡ true → is_one_of k (any_begin cs d) ≡ true
begins_in {c = c} k (here {cs} {d}) h = one_here k (all_begin c.parts) (any_begin cs d) h
begins_in k (there {b} {cs} {d} i) h = one_there k (all_begin b.parts) (any_begin cs d) (begins_in k i h)
begins_in k last h = h

told_in : {source : List ℕ} {p : Nonterminal} {c : Choice source p} {cs : List (Choice source p)} {d : Option (Choice source p)} (k : TokenKind) → In c cs d → told_apart cs d ≡ true → is_one_of k (all_begin c.parts) ≡ true → chosen k cs d ≡ Some c
told_in {c = c} k (here {cs} {d}) h e = ap (λ b. cond b (Some c) (chosen k cs d)) e
told_in {c = c} k (there {b} {cs} {d} i) h e =
    let n : is_one_of k (all_begin b.parts) ≡ false = false_from_ne_true (is_one_of k (all_begin b.parts)) (λ y. cc (one_apart k (all_begin b.parts) (any_begin cs d) (and_parts (apart (all_begin b.parts) (any_begin cs d)) _ h).0 y, begins_in k i e)) in
    ap (λ x. cond x (Some b) (chosen k cs d)) n ∙ told_in k i (and_parts _ (told_apart cs d) (and_parts (apart (all_begin b.parts) (any_begin cs d)) _ h).1).1 e
told_in k last h e = refl

untold_in : {source : List ℕ} {p : Nonterminal} {c : Choice source p} {cs : List (Choice source p)} {d : Option (Choice source p)} (k : TokenKind) → In c cs d → told_apart cs d ≡ true → all_sound p cs d ≡ true → all_empty c.parts ≡ true → is_one_of k (begins p) ≡ false → chosen k cs d ≡ Some c
untold_in {c = c} k (here {cs} {d}) h a e n = cc (not-true (all_empty c.parts) (and_parts (not (all_empty c.parts)) (told_apart cs d) (and_parts (apart (all_begin c.parts) (any_begin cs d)) _ h).1).0)
untold_in {p = p} {c = c} k (there {b} {cs} {d} i) h a e n =
    let s = split_sound p b.parts (and_parts (sound_at p b.parts) (all_sound p cs d) a).0 in
    let m : is_one_of k (all_begin b.parts) ≡ false = false_from_ne_true (is_one_of k (all_begin b.parts)) (λ y. cc (one_within k (all_begin b.parts) (begins p) s.firsts y)) in
    ap (λ x. cond x (Some b) (chosen k cs d)) m ∙ untold_in k i (and_parts _ (told_apart cs d) (and_parts (apart (all_begin b.parts) (any_begin cs d)) _ h).1).1 (and_parts (sound_at p b.parts) (all_sound p cs d) a).1 e n
untold_in k last h a e n = refl

ended_in : {source : List ℕ} {p : Nonterminal} {c : Choice source p} {cs : List (Choice source p)} {d : Option (Choice source p)} → In c cs d → told_apart cs d ≡ true → all_empty c.parts ≡ true → d ≡ Some c
ended_in {c = c} (here {cs} {d}) h e = cc (not-true (all_empty c.parts) (and_parts (not (all_empty c.parts)) (told_apart cs d) (and_parts (apart (all_begin c.parts) (any_begin cs d)) _ h).1).0)
ended_in (there {b} {cs} {d} i) h e = ended_in i (and_parts _ (told_apart cs d) (and_parts (apart (all_begin b.parts) (any_begin cs d)) _ h).1).1 e
ended_in last h e = refl

-- a production that the next token begins is predicted
pub told : {source : List ℕ} {p : Nonterminal} (c : Choice source p) → In c (cases source p) (otherwise source p) → (t : Token) (ts : List Token) → is_one_of t.kind (all_begin c.parts) ≡ true → predict source p (t ∷ ts) ≡ Some c
told {source} {p} c i t ts e = told_in t.kind i (check_of source p).told e

-- The next token doesn't bar the part.
abbrev pub Clear : Nonterminal → List Token → Type 0
Clear p [] = Unit {0}
Clear p (t ∷ ts) = is_one_of t.kind (bars p) ≡ false

-- a production that may be empty is predicted where nothing bars the part
pub untold : {source : List ℕ} {p : Nonterminal} (c : Choice source p) → In c (cases source p) (otherwise source p) → (ts : List Token) → all_empty c.parts ≡ true → Clear p ts → predict source p ts ≡ Some c
untold {source} {p} c i [] e n = ended_in i (check_of source p).told e
untold {source} {p} c i (t ∷ ts) e n =
    let k = check_of source p in
    let m : may_be_empty p ≡ true = implied (all_empty c.parts) (may_be_empty p) (sound c i).empties e in
    let w : within (begins p) (bars p) ≡ true = implied (may_be_empty p) (within (begins p) (bars p)) k.bared m in
    untold_in t.kind i k.told k.all e (false_from_ne_true (is_one_of t.kind (begins p)) (λ y. cc (one_within t.kind (begins p) (bars p) w y)))
