-- Where the tokens of a text start, and lists of numbers that are less than a bound.
use Rattle.std.proofs.Common.{◌≡◌, refl, ℕ, ◌<◌, ◌≤◌, ◌≢◌, true, false, inl, inr, nat_eq, List, [], ◌∷◌, arith, eq-eqb, ne_eqb}
use Rattle.std.proofs.lemmas.Bool.{cases_lt}
use Rattle.std.specs.List.{AllByRecursion}
use Rattle.rb_trees.specs.declared.tokens.Token.{Token}
use Rattle.rb_meaning_bytes.specs.tokens.Lists.{TokensBetween}
use Rattle.rb_parse.proofs.lawful.Apart.{gap_rises}
use Rattle.rb_parse.proofs.lawful.Positions.{once, times, starts}

once_same : (n : ℕ) → once n n ≡ 1
unfolding once
once_same n = let e : nat_eq n n ≡ true = eq-eqb n n refl in rw e refl

once_other : (n x : ℕ) → n ≢ x → once n x ≡ 0
unfolding once
once_other n x h = let e : nat_eq n x ≡ false = ne_eqb n x h in rw e refl

-- tokens go up
rises : (text : List ℕ) (from to : ℕ) (tokens : List Token) → TokensBetween text from tokens to → from ≤ to
rises text from to [] b = gap_rises b
rises text from to (t ∷ ts) b = omega (arith, gap_rises b.0, b.1.rises, rises text t.end to ts b.2)

-- no token of a text starts at its end or behind it
pub absent_behind : (text : List ℕ) (n from to : ℕ) (tokens : List Token) → TokensBetween text from tokens to → to ≤ n → starts n tokens ≡ 0
absent_behind text n from to [] b h = refl
absent_behind text n from to (t ∷ ts) b h =
    let l : t.start < to = omega (arith, b.1.rises, rises text t.end to ts b.2) in
    omega (arith, once_other n t.start (λ e. omega arith), absent_behind text n t.end to ts b.2 h)

-- where no number from a bound on stands in a list, all there are less
pub all_below : (most : ℕ) (xs : List ℕ) → ((n : ℕ) → most ≤ n → times n xs ≤ 0) → AllByRecursion (λ at. at < most) xs
all_below most [] h = tt
all_below most (x ∷ xs) h = (elim (cases_lt x most) [ inl l ↦ l | inr g ↦ absurd (omega (arith, h x g, once_same x)) ], all_below most xs (λ n g. omega (arith, h n g)))
