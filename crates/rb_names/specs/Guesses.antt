-- Places of names in a list of names, and guesses at them.
use Rattle.std.specs.Prelude.{◌≡◌, ℕ, suc, List, [], ◌∷◌, Bool, false, cond, nat_eq, Option, Some, None, IsTrue}
use Rattle.std.specs.Option.{option_map}
use Rattle.std.specs.Str.{bytes_eq}

-- the first place of a name in a list of names
abbrev pub first_place : List ℕ → List (List ℕ) → Option ℕ
first_place name [] = None
first_place name (word ∷ words) = cond (bytes_eq word name) (Some 0) (option_map suc (first_place name words))

-- whether a guess is a place
abbrev pub is_at : Option ℕ → ℕ → Bool
is_at None place = false
is_at (Some guess) place = nat_eq guess place

-- wherever the list has a name, the guess is its first place
abbrev pub Guides : (List ℕ → Option ℕ) → List (List ℕ) → Type 0
Guides guess words = (name : List ℕ) (place : ℕ) → first_place name words ≡ Some place → IsTrue (is_at (guess name) place)
