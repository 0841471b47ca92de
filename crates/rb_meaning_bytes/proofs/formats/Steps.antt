-- Reading a format a step at a time, as code does: a choice by the next byte, and so many in a loop.
use Rattle.std.proofs.Common.{◌≡◌, ℕ, suc, ◌+◌, ◌-◌, ◌<◌, ◌≤◌, List, [], ◌∷◌, ◌++◌, length, Ok, Err, refl, ap, sym, ◌∙◌, arith, append_assoc, append-nil, Bool, true, false, cond, nat_eq}
use Rattle.rb_meaning_bytes.specs.formats.Fields.{Field, Byte, Tag, Of, bad_tag}
use Rattle.rb_meaning_bytes.specs.formats.Formats.{Format, Done, Then, the, ◌>>=◌, choose, picked, is_tag, times, deeper}
use Rattle.rb_meaning_bytes.specs.formats.Reading.{Fault, Read, on, look, read, deep}
use Rattle.rb_meaning_bytes.proofs.formats.Exact.{bound}

-- by the tag, the form that it stands for
abbrev pub by_tag : {A : Type 0} → List (ℕ × Format A) → ℕ → List ℕ → Read A
by_tag [] b rest = Err (bad_tag, length rest + 1)
by_tag (form ∷ forms) b rest = cond (nat_eq b form.0) (read form.1 rest) (by_tag forms b rest)

on_cond : {A : Type 0} (w : Bool) (b : ℕ) (rest : List ℕ) (d : Fault) (g : ℕ → List ℕ → Read A) → on (cond w (Ok (b, rest)) (Err d)) g ≡ cond w (g b rest) (Err d)
on_cond true b rest d g = refl
on_cond false b rest d g = refl

tagged : {A : Type 0} (forms : List (ℕ × Format A)) (b : ℕ) (rest : List ℕ) → read (choose forms) (b ∷ rest) ≡ by_tag forms b rest
unfolding read look
tagged [] b rest = ap (λ n. Err (bad_tag, n)) (omega arith)
tagged (form ∷ forms) b rest = go (nat_eq b form.0) refl (tagged forms b rest)
  where
    d : Fault
    d = (bad_tag, length (b ∷ rest))

    go : (v : Bool) → nat_eq b form.0 ≡ v → on (cond (is_tag forms b) (Ok (b, rest)) (Err d)) (λ x r. read (picked forms x) r) ≡ by_tag forms b rest
        → on (cond (cond v true (is_tag forms b)) (Ok (b, rest)) (Err d)) (λ x r. read (picked (form ∷ forms) x) r) ≡ cond v (read form.1 rest) (by_tag forms b rest)
    go true e h = ap (λ w. read (cond w form.1 (picked forms b)) rest) e
    go false e h =
        on_cond (is_tag forms b) b rest d (λ x r. read (picked (form ∷ forms) x) r)
        ∙ ap (λ w. cond (is_tag forms b) (read (cond w form.1 (picked forms b)) rest) (Err d)) e
        ∙ sym (on_cond (is_tag forms b) b rest d (λ x r. read (picked forms x) r)) ∙ h

pub chosen : {A : Type 0} (forms : List (ℕ × Format A)) (bytes : List ℕ) → read (choose forms) bytes ≡ on (look Byte bytes) (λ b rest. by_tag forms b rest)
unfolding read look
chosen forms [] = refl
chosen forms (b ∷ rest) = tagged forms b rest

pub too_far : (A : Type 0) (bytes : List ℕ) → read (deeper {A = A}) bytes ≡ Err (deep bytes)
unfolding read look
too_far A bytes = refl

pub tested : (test : ℕ → Bool) (bytes : List ℕ) → read (the (Tag test)) bytes ≡ on (look Byte bytes) (λ b rest. cond (test b) (Ok (b, rest)) (Err (bad_tag, length rest + 1)))
unfolding read look
tested test [] = refl
tested test (b ∷ rest) = on_cond (test b) b rest (bad_tag, length (b ∷ rest)) (λ x r. Ok (x, r)) ∙ ap (λ n. cond (test b) (Ok (b, rest)) (Err (bad_tag, n))) (omega arith)

pub begun : {A : Type 0} (f : Field) (next : Of f → Format A) (bytes : List ℕ) → read (Then f next) bytes ≡ on (look f bytes) (λ x rest. read (next x) rest)
unfolding read
begun f next bytes = refl

pub ended : {A : Type 0} (a : A) (bytes : List ℕ) → read (Done a) bytes ≡ Ok (a, bytes)
unfolding read
ended a bytes = refl

pub ruleset reading = (bound, begun, ended)

-- ---- so many, in a loop

-- what was read before, and what is still read
abbrev pub with_front : {A : Type 0} → List A → Read (List A) → Read (List A)
with_front front r = on r (λ xs rest. Ok (front ++ xs, rest))

pub one_more : {A : Type 0} (n : ℕ) (F : Format A) (bytes : List ℕ) → read (times (suc n) F) bytes ≡ on (read F bytes) (λ x rest. on (read (times n F) rest) (λ xs rest. Ok (x ∷ xs, rest)))
unfolding times read
one_more n F bytes = bound F (λ x. times n F >>= λ xs. Done (x ∷ xs)) bytes ∙ go (read F bytes)
  where
    go : (r : Read _) → on r (λ x rest. read (times n F >>= λ xs. Done (x ∷ xs)) rest) ≡ on r (λ x rest. on (read (times n F) rest) (λ xs rest. Ok (x ∷ xs, rest)))
    go (Ok y) = bound (times n F) (λ xs. Done (y.0 ∷ xs)) y.1
    go (Err e) = refl

regroup : {A : Type 0} (front : List A) (x : A) (r : Read (List A)) → with_front front (on r (λ xs rest. Ok (x ∷ xs, rest))) ≡ with_front (front ++ x ∷ []) r
regroup front x (Ok y) = ap (λ xs. Ok (xs, y.1)) (sym (append_assoc front (x ∷ []) y.0))
regroup front x (Err e) = refl

-- what is left of so many once one more was read
pub more_left : (count i : ℕ) → i < count → count - i ≡ suc (count - (i + 1))
more_left count i h = omega arith

pub goes_on : {A : Type 0} (F : Format A) (front : List A) (count i : ℕ) (bytes : List ℕ) (x : A) (after : List ℕ) (total : Read (List A)) → i < count → read F bytes ≡ Ok (x, after)
    → with_front front (read (times (count - i) F) bytes) ≡ total → with_front (front ++ x ∷ []) (read (times (count - (i + 1)) F) after) ≡ total
goes_on F front count i bytes x after total lt h so_far =
    let k = more_left count i lt in
    let one : read (times (count - i) F) bytes ≡ on (read (times (count - (i + 1)) F) after) (λ xs rest. Ok (x ∷ xs, rest)) =
    ap (λ m. read (times m F) bytes) k ∙ one_more (count - (i + 1)) F bytes ∙ ap (λ r. on r (λ y rest. on (read (times (count - (i + 1)) F) rest) (λ xs rest. Ok (y ∷ xs, rest)))) h in
    sym (ap (with_front front) one ∙ regroup front x (read (times (count - (i + 1)) F) after)) ∙ so_far

pub ends : {A : Type 0} (F : Format A) (front : List A) (count i : ℕ) (bytes : List ℕ) (e : Fault) (total : Read (List A)) → i < count → read F bytes ≡ Err e
    → with_front front (read (times (count - i) F) bytes) ≡ total → total ≡ Err e
ends F front count i bytes e total lt h so_far =
    let k = more_left count i lt in
    let one : read (times (count - i) F) bytes ≡ Err e = ap (λ m. read (times m F) bytes) k ∙ one_more (count - (i + 1)) F bytes ∙ ap (λ r. on r (λ y rest. on (read (times (count - (i + 1)) F) rest) (λ xs rest. Ok (y ∷ xs, rest)))) h in
    sym so_far ∙ ap (with_front front) one

pub is_done : {A : Type 0} (F : Format A) (front : List A) (count i : ℕ) (bytes : List ℕ) (total : Read (List A)) → count ≤ i → with_front front (read (times (count - i) F) bytes) ≡ total → total ≡ Ok (front, bytes)
unfolding times read
is_done F front count i bytes total le so_far =
    let k : count - i ≡ 0 = omega arith in
    sym so_far ∙ ap (λ m. with_front front (read (times m F) bytes)) k ∙ ap (λ xs. Ok (xs, bytes)) (append-nil front)
