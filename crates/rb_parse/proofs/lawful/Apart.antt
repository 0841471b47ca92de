-- Tokens stand one behind the other, so a number is the start of one token at most.
use Rattle.std.proofs.Common.{◌≡◌, ℕ, ◌<◌, ◌≤◌, Bool, true, false, cond, nat_eq, List, [], ◌∷◌, refl, arith, eqb-true, ne_eqb}
use Rattle.std.proofs.lemmas.Bool.Decides.{nat_tests}
use Rattle.std.specs.List.{AllByRecursion, IsDistinct}
use Rattle.rb_trees.specs.declared.tokens.Token.{Token}
use Rattle.rb_meaning_bytes.specs.tokens.Lists as lists
use Rattle.rb_meaning_bytes.specs.tokens.Lists.{Gap, TokensBetween}
use Rattle.rb_parse.proofs.lawful.Positions.{once, times, starts}

pub gap_rises : {text : List ℕ} {from to : ℕ} → Gap text from to → from ≤ to
gap_rises lists.none = omega arith
gap_rises (lists.skip size s g) = let i = gap_rises g in omega arith

once_not : (n x : ℕ) → n < x → once n x ≡ 0
unfolding once
once_not n x h = let e : nat_eq n x ≡ false = ne_eqb n x (λ k. omega arith) in rw e refl

once_most : (n x : ℕ) → once n x ≤ 1
unfolding once
once_most n x = by (nat_eq n x)
  where
    by : (b : Bool) → cond b 1 0 ≤ 1
    by true = omega arith
    by false = omega arith

once_same : (n x : ℕ) → nat_eq n x ≡ true → once n x ≡ 1
unfolding once
once_same n x h = rw h refl

once_other : (n x : ℕ) → nat_eq n x ≡ false → once n x ≡ 0
unfolding once
once_other n x h = rw h refl

-- no token behind an offset starts before it
absent : (text : List ℕ) (n from to : ℕ) (tokens : List Token) → TokensBetween text from tokens to → n < from → starts n tokens ≡ 0
absent text n from to [] b h = refl
absent text n from to (t ∷ ts) b h =
    let l : from ≤ t.start = gap_rises b.0 in
    omega (arith, once_not n t.start (omega arith), absent text n t.end to ts b.2 (omega (arith, b.1.rises)))

starts_by : (text : List ℕ) (n : ℕ) (t : Token) (ts : List Token) (to : ℕ) (same : Bool) → nat_eq n t.start ≡ same → t.start < t.end → TokensBetween text t.end ts to → starts n ts ≤ 1 → starts n (t ∷ ts) ≤ 1
starts_by text n t ts to true e r b i = let s : n ≡ t.start = eqb-true n t.start e in omega (arith, once_most n t.start, absent text n t.end to ts b (omega arith))
starts_by text n t ts to false e r b i = omega (arith, once_other n t.start e)

pub starts_once : (text : List ℕ) (n from to : ℕ) (tokens : List Token) → TokensBetween text from tokens to → starts n tokens ≤ 1
starts_once text n from to [] b = omega arith
starts_once text n from to (t ∷ ts) b = starts_by text n t ts to (nat_eq n t.start) refl b.1.rises b.2 (starts_once text n t.end to ts b.2)

none_same : (x : ℕ) (xs : List ℕ) → times x xs ≤ 0 → AllByRecursion (λ y. nat_eq x y ≡ false) xs
none_same x [] h = tt
none_same x (y ∷ ys) h = (by (nat_eq x y) refl, none_same x ys (omega arith))
  where
    by : (b : Bool) → nat_eq x y ≡ b → b ≡ false
    by true e = absurd (omega (arith, once_same x y e))
    by false e = refl

once_self : (x : ℕ) → once x x ≡ 1
once_self x = once_same x x (by (nat_eq x x) refl)
  where
    by : (b : Bool) → nat_eq x x ≡ b → b ≡ true
    by true e = refl
    by false e = grind (arith, nat_tests)

-- a list in which no number stands twice
pub distinct : (xs : List ℕ) → ((n : ℕ) → times n xs ≤ 1) → IsDistinct nat_eq xs
unfolding IsDistinct
distinct [] h = tt
distinct (x ∷ xs) h = (none_same x xs (omega (arith, h x, once_self x)), distinct xs (λ n. omega (arith, h n)))
