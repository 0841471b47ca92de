-- The earliest of some refusals, as it is kept while they are found.
use Rattle.std.specs.Prelude.{◌≡◌, List, [], ◌∷◌, Bool, ◌&&◌, ◌||◌, cond, nat_eq, nat_lt, Option, Some, None}
use Rattle.std.specs.List.{Contains}
use Rattle.rb_trees.specs.declared.refusals.Refusal.{Refusal}
use Rattle.rb_meaning_flow.specs.Refusals.{place, number, IsBefore}

-- whether a refusal comes before another: by place, then by number
abbrev pub is_before : Refusal → Refusal → Bool
is_before r s = nat_lt (place r) (place s) || (nat_eq (place r) (place s) && nat_lt (number r) (number s))

-- the earlier of the one that is kept, if there is one, and another
abbrev pub earlier : Option Refusal → Refusal → Option Refusal
earlier None r = Some r
earlier (Some s) r = cond (is_before r s) (Some r) (Some s)

-- what is kept once these are found too
abbrev pub earliest : List Refusal → Option Refusal → Option Refusal
earliest [] first = first
earliest (r ∷ rs) first = earliest rs (earlier first r)

-- the first of some refusals in their order: one of them, before which there is none
abbrev pub IsEarliest : List Refusal → Option Refusal → Type 0
IsEarliest rs None = rs ≡ []
IsEarliest rs (Some r) = Contains rs r × ((other : Refusal) → Contains rs other → IsBefore other r → ⊥)

-- what is kept while refusals are found is the first of them
abbrev pub EarliestIsFirst : Type 0
EarliestIsFirst = (rs : List Refusal) → IsEarliest rs (earliest rs None)
