-- Guesses at the places of numbers in a list.
use Rattle.std.specs.Prelude.{◌≡◌, ℕ, suc, List, [], ◌∷◌, Bool, false, cond, nat_eq, Option, Some, None, IsTrue}
use Rattle.std.specs.Option.{option_map}

-- the first place of a number in a list
abbrev pub first_place : ℕ → List ℕ → Option ℕ
first_place n [] = None
first_place n (m ∷ ms) = cond (nat_eq m n) (Some 0) (option_map suc (first_place n ms))

-- whether a guess is a place
abbrev pub is_at : Option ℕ → ℕ → Bool
is_at None place = false
is_at (Some guess) place = nat_eq guess place

-- wherever the list has a number, the guess is its first place
abbrev pub Guides : (ℕ → Option ℕ) → List ℕ → Type 0
Guides guess ns = (n place : ℕ) → first_place n ns ≡ Some place → IsTrue (is_at (guess n) place)
