-- Where the first stands under a target.
use Rattle.std.specs.Prelude.{◌≡◌, ◌<◌, ◌+◌, ℕ, List, ◌++◌, Option, None, Some, length, take, drop, slice_index_or}
use Rattle.rb_session.specs.Targets.{first_under, without_first}
use Rattle.rb_session.specs.declared.targets.Target.{Target}

-- The first stands at this place: it is the one there, and without it the list is what stands before and after.
pub record IsPlace {L : Type 0} (t : Target) (pairs : List (Target × L)) (place : ℕ) : Type 0 where
  pub within : place < length pairs
  pub is : (d : Target × L) → first_under t pairs ≡ Some (slice_index_or pairs place d).1
  pub rest : without_first t pairs ≡ take place pairs ++ drop (place + 1) pairs

-- The first stands at the place, or there is none.
abbrev pub StandsAt : {L : Type 0} → Target → List (Target × L) → Option ℕ → Type 0
StandsAt t pairs (Some place) = IsPlace t pairs place
StandsAt t pairs None = first_under t pairs ≡ None
