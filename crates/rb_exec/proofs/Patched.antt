-- Counts that are put over the bytes that were left for them.
use Rattle.std.proofs.Common.{◌≡◌, ◌+◌, ◌≤◌, ℕ, zero, suc, List, [], ◌∷◌, ◌++◌, length, take, drop, set, refl, ap, sym, ◌∙◌, arith, append_assoc, append-nil, length-append, length-drop}
use Rattle.std.specs.Prelude.{Result, Ok, Err, OnErr}
use Rattle.std.proofs.Math.Seq.{drop-append_seam}
use Rattle.std.proofs.lemmas.List.{take_all, drop_all}
use Rattle.rb_meaning_bytes.specs.formats.Fields.{number}
use Rattle.rb_wire_fields.specs.Buffers.{Keeps}
use Rattle.rb_exec.specs.Holes.{filled}

-- what holds anyway holds of an error
pub on_err : {T E : Type 0} {P : Type 0} (r : Result T E) → P → OnErr r P
on_err (Ok x) p = tt
on_err (Err e) p = p

bytewise : (at : ℕ) (all : List ℕ) (a b c d : ℕ) → at + 4 ≤ length all
    → set (set (set (set all at a) (suc at) b) (suc (suc at)) c) (suc (suc (suc at))) d ≡ take at all ++ (a ∷ b ∷ c ∷ d ∷ []) ++ drop (suc (suc (suc (suc at)))) all
bytewise zero [] a b c d h = absurd (omega arith)
bytewise zero (p ∷ []) a b c d h = absurd (omega arith)
bytewise zero (p ∷ q ∷ []) a b c d h = absurd (omega arith)
bytewise zero (p ∷ q ∷ r ∷ []) a b c d h = absurd (omega arith)
bytewise zero (p ∷ q ∷ r ∷ s ∷ rest) a b c d h = refl
bytewise (suc at) [] a b c d h = absurd (omega arith)
bytewise (suc at) (p ∷ all) a b c d h = ap (λ l. p ∷ l) (bytewise at all a b c d (omega (arith, h)))

-- byte after byte
pub patched : (at : ℕ) (all : List ℕ) (a b c d : ℕ) → at + 4 ≤ length all → set (set (set (set all at a) (at + 1) b) (at + 2) c) (at + 3) d ≡ filled at (a ∷ b ∷ c ∷ d ∷ []) all
patched at all a b c d h =
    let i : at + 1 ≡ suc at = omega arith in
    let j : at + 2 ≡ suc (suc at) = omega arith in
    let k : at + 3 ≡ suc (suc (suc at)) = omega arith in
    let l : suc (suc (suc (suc at))) ≡ at + 4 = omega arith in
    ap (λ n. set (set (set (set all at a) n b) (at + 2) c) (at + 3) d) i
    ∙ ap (λ n. set (set (set (set all at a) (suc at) b) n c) (at + 3) d) j
    ∙ ap (λ n. set (set (set (set all at a) (suc at) b) (suc (suc at)) c) n d) k
    ∙ bytewise at all a b c d h
    ∙ ap (λ n. take at all ++ (a ∷ b ∷ c ∷ d ∷ []) ++ drop n all) l

pub number_long : (n : ℕ) → length (number n) ≡ 4
unfolding number
number_long n = refl

cut_short : (at : ℕ) (all : List ℕ) → at ≤ length all → length (take at all) ≡ at
cut_short zero all h = refl
cut_short (suc at) [] h = absurd (omega arith)
cut_short (suc at) (x ∷ all) h = ap suc (cut_short at all (omega (arith, h)))

-- as many bytes as before
filled_long : (at : ℕ) (bytes all : List ℕ) → at + length bytes ≤ length all → length (filled at bytes all) ≡ length all
filled_long at bytes all h =
    let a = length-append (take at all ++ bytes) (drop (at + length bytes) all) in
    let b = length-append (take at all) bytes in
    let c : length (take at all) ≡ at = cut_short at all (omega (arith, h)) in
    let d = length-drop (at + length bytes) all in
    omega (arith, a, b, c, d, h)

-- a buffer whose bytes were lent and filled
pub filled_back : (at count : ℕ) (old lent new : List ℕ) → lent ≡ old → new ≡ filled at (number count) lent → at + 4 ≤ length old
    → take (length old) (new ++ drop (length new) old) ≡ filled at (number count) old
filled_back at count old lent new same is fits =
    let long : length (number count) ≡ 4 = number_long count in
    let made : new ≡ filled at (number count) old = is ∙ ap (filled at (number count)) same in
    let size : length new ≡ length old = ap length made ∙ filled_long at (number count) old (omega (arith, long, fits)) in
    ap (λ xs. take (length old) (new ++ xs)) (drop_all (length new) old (omega (arith, size)))
    ∙ ap (take (length old)) (append-nil new)
    ∙ take_all (length old) new (omega (arith, size))
    ∙ made

-- what stands before the hole and behind it stays
pub filled_between : (front hole rest bytes : List ℕ) → length hole ≡ length bytes → filled (length front) bytes (front ++ hole ++ rest) ≡ front ++ bytes ++ rest
filled_between [] hole rest bytes h = ap (λ n. bytes ++ drop n (hole ++ rest)) (zero_left (length bytes) ∙ sym h) ∙ ap (λ l. bytes ++ l) (drop-append_seam hole rest)
  where
    zero_left : (n : ℕ) → 0 + n ≡ n
    zero_left n = omega arith
filled_between (f ∷ fs) hole rest bytes h = shift ∙ ap (λ l. f ∷ l) (filled_between fs hole rest bytes h)
  where
    n_is : suc (length fs) + length bytes ≡ suc (length fs + length bytes)
    n_is = omega arith

    shift : filled (length (f ∷ fs)) bytes (f ∷ (fs ++ hole ++ rest)) ≡ f ∷ filled (length fs) bytes (fs ++ hole ++ rest)
    shift = ap (λ n. take (suc (length fs)) (f ∷ (fs ++ hole ++ rest)) ++ bytes ++ drop n (f ∷ (fs ++ hole ++ rest))) n_is

-- the bytes with the count in the hole
pub filled_in : (front holed now more : List ℕ) (at count : ℕ) → at ≡ length front → holed ≡ front ++ number 0 → now ≡ holed ++ more
    → filled at (number count) now ≡ front ++ number count ++ more
filled_in front holed now more at count a h n =
    let long : length (number 0) ≡ length (number count) = number_long 0 ∙ sym (number_long count) in
    ap (λ i. filled i (number count) now) a
    ∙ ap (filled (length front) (number count)) (n ∙ ap (λ l. l ++ more) h)
    ∙ filled_between front (number 0) more (number count) long

-- the hole is within what was written
pub hole_within : (front holed now : List ℕ) (at : ℕ) → at ≡ length front → holed ≡ front ++ number 0 → Keeps holed now → at + 4 ≤ length now
hole_within front holed now at a h k =
    let l = ap length k.is ∙ length-append holed k.more in
    let m = ap length h ∙ length-append front (number 0) in
    let n = number_long 0 in
    omega (arith, l, m, n, a)

-- filling keeps what stands before the hole
pub filled_keeps : (front holed now new : List ℕ) (at count : ℕ) → at ≡ length front → holed ≡ front ++ number 0 → Keeps holed now → Keeps (filled at (number count) now) new → Keeps front new
filled_keeps front holed now new at count a h k l =
    let is = filled_in front holed now k.more at count a h k.is in
    record {
      more = number count ++ k.more ++ l.more;
      is = l.is ∙ ap (λ xs. xs ++ l.more) (is ∙ append_assoc front (number count) k.more) ∙ append_assoc front (number count ++ k.more) l.more;
    }
