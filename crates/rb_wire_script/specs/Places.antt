-- The places of texts among others, and maps that have them.
use Rattle.std.specs.Prelude.{◌≡◌, ℕ, suc, List, [], ◌∷◌, cond, Option, Some, None}
use Rattle.std.specs.BTreeMap.{BTreeMap, get_by}
use Rattle.std.specs.Cmp.Lexicographic.{slice_cmp}
use Rattle.std.specs.Option.{option_map}
use Rattle.std.specs.Ordering.{nat_cmp}
use Rattle.std.specs.Str.{bytes_eq}
use denote.Ref.{Bor}

-- the first place of a text, where it is among the others
abbrev pub place_of : List (List ℕ) → List ℕ → Option ℕ
place_of [] text = None
place_of (t ∷ texts) text = cond (bytes_eq t text) (Some 0) (option_map suc (place_of texts text))

-- The map has the place of each text that is among the others, and no other text.
abbrev pub Placed : BTreeMap (Bor (List ℕ)) ℕ → List (List ℕ) → Type 0
Placed places texts = (text : List ℕ) → get_by (λ k. slice_cmp nat_cmp text k.now) places ≡ place_of texts text
