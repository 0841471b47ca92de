-- The division of the batch at a position, and the places by which the code finds it.
use Rattle.std.specs.Prelude.{◌≡◌, ◌==◌, ℕ, suc, List, [], ◌∷◌, cond, nat_eq, Option, None, Some}
use Rattle.rb_trees.specs.declared.remainders.Split.{Split}

abbrev pub split_at : List Split → ℕ → Option Split
split_at [] at = None
split_at (s ∷ ss) at = cond (s.at == at) (Some s) (split_at ss at)

-- the place of the first division at a position, among divisions whose places begin from a number
abbrev pub place_in : List Split → ℕ → ℕ → Option ℕ
place_in [] at place = None
place_in (s ∷ ss) at place = cond (nat_eq s.at at) (Some place) (place_in ss at (suc place))

-- At each position, the place of the first division there.
abbrev pub ArePlaces : (ℕ → Option ℕ) → List Split → Type 0
ArePlaces place splits = (at : ℕ) → place at ≡ place_in splits at 0

-- the place of one more division, by what finds one before and what finds one now
abbrev pub Notes : Split → ℕ → (ℕ → Option ℕ) → (ℕ → Option ℕ) → Type 0
Notes s place before now = (at : ℕ) → now at ≡ cond (nat_eq s.at at) (Some place) (before at)
