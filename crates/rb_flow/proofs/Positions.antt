-- Positions in a set.
use Rattle.std.proofs.Common.{◌≡◌, ◌==◌, ℕ, List, [], ◌∷◌, ◌++◌, Bool, true, false, cond, ◌||◌, refl, ap, ◌∙◌, sym}
use Rattle.std.specs.BTreeMap.{is_at}
use Rattle.std.specs.Cmp.{unsigned_tied}
use Rattle.std.specs.List.{list_any}
use Rattle.std.specs.Ordering.{nat_cmp}

-- whether a position is among some
abbrev pub any_at : ℕ → List ℕ → Bool
any_at q ns = list_any (λ n. n == q) ns

turned : (b f : Bool) → (cond b true f || false) ≡ (f || (b || false))
turned true true = refl
turned true false = refl
turned false true = refl
turned false false = refl

past : (b p r : Bool) → (b || (p || r)) ≡ (p || (b || r))
past true true r = refl
past true false r = refl
past false p r = refl

-- a position that was added to a set, or that still comes last
pub any_last : (ns : List ℕ) (n q : ℕ) (found : Bool) → (cond (is_at (nat_cmp n) q) true found || any_at q ns) ≡ (found || any_at q (ns ++ n ∷ []))
any_last [] n q found = turned (is_at (nat_cmp n) q) found ∙ ap (λ b. found || (b || false)) (unsigned_tied n q)
any_last (m ∷ ns) n q found =
    past (cond (is_at (nat_cmp n) q) true found) (m == q) (any_at q ns) ∙ ap (λ b. (m == q) || b) (any_last ns n q found)
    ∙ sym (past found (m == q) (any_at q (ns ++ n ∷ [])))
