-- Notes at positions.
use Rattle.std.specs.Prelude.{◌≡◌, ℕ, List, [], ◌∷◌, cond, Option, Some}
use Rattle.std.specs.Ordering.{nat_cmp}
use Rattle.std.specs.BTreeMap.{is_at}

-- the first note at a position, or else what was found elsewhere
abbrev pub first_at : {A : Type 0} → List (ℕ × A) → ℕ → Option A → Option A
first_at [] at other = other
first_at (n ∷ ns) at other = cond (is_at (nat_cmp n.0) at) (Some n.1) (first_at ns at other)

-- one more note at a position, by what was found before and what is found now
abbrev pub Adds : {A : Type 0} → ℕ → A → (ℕ → Option A) → (ℕ → Option A) → Type 0
Adds at note before now = (q : ℕ) → now q ≡ cond (is_at (nat_cmp at) q) (Some note) (before q)
