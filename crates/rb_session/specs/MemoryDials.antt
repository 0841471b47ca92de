-- Dials in memory.
use Rattle.std.specs.Prelude.{◌≡◌, ◌<◌, ℕ, ◌+◌, All, List, [], ◌∷◌, ◌++◌, length, take, drop, fold, map, slice_index_or, Option, None, Some}
use Rattle.rb_session.specs.Targets.{without_first}
use Rattle.rb_session.specs.Dials.{Dialling, next_link, broken_after}
use Rattle.rb_session.specs.declared.targets.Target.{Target}
use Rattle.rb_session.specs.declared.any_link.AnyLink.{AnyLink}
use Rattle.rb_session.specs.declared.any_link.AnyLink.TheVariants.{Dialled}

-- a Dial in memory: what it tells, but that the links that wait are as they were added; and how many dials failed
pub record DialInMemory (X : Type 0) : Type 0 where
  pub waiting : List (Target × X)
  pub made : ℕ
  pub failing : List ℕ
  pub faults : ℕ
  pub out : ℕ
  pub back : List (AnyLink X)

-- None of these links, each under its target, has counted a fault.
abbrev pub AreWhole : {X : Type 0} → (X → ℕ) → List (Target × X) → Type 0
AreWhole {X} faults ps = All (λ (p : Target × X). faults p.1 ≡ 0) ps

-- no link waits, and nothing was dialled
abbrev pub new_dial : {X : Type 0} → List ℕ → DialInMemory X
new_dial failing = record { waiting = []; made = 0; failing = failing; faults = 0; out = 0; back = [] }

-- one more link waits, after the others
abbrev pub with_link : {X : Type 0} → DialInMemory X → Target → X → DialInMemory X
with_link d t link = record d { waiting = d.waiting ++ (t, link) ∷ [] }

-- one more link is out
abbrev pub with_one_out : {X : Type 0} → DialInMemory X → DialInMemory X
with_one_out d = record d { out = d.out + 1 }

-- a link that waits, as the one that is dialled
abbrev pub as_dialled : {X : Type 0} → Target × X → Target × AnyLink X
as_dialled p = (p.0, Dialled p.1)

-- what a Dial in memory tells
abbrev pub dialling_of : {X : Type 0} → DialInMemory X → Dialling (AnyLink X)
dialling_of d = record { waiting = map as_dialled d.waiting; made = d.made; failing = d.failing; out = d.out; back = d.back }

-- how many of these links are broken, of which each has this count of faults
abbrev pub broken_among : {L : Type 0} → (L → ℕ) → List L → ℕ
broken_among faults ls = fold (λ n l. broken_after (faults l) n) 0 ls

-- no link waits at this place any more
abbrev pub without_place : {X : Type 0} → DialInMemory X → ℕ → DialInMemory X
without_place d place = record d { waiting = take place d.waiting ++ drop (place + 1) d.waiting }

-- The next dial of a target takes the link at this place.
pub record TakesAt {X : Type 0} (d : DialInMemory X) (t : Target) (place : ℕ) : Type 0 where
  pub within : place < length d.waiting
  pub is : (p : Target × X) → next_link (dialling_of d) t ≡ Some (Dialled (slice_index_or d.waiting place p).1)
  pub rest : without_first t (map as_dialled d.waiting) ≡ map as_dialled (without_place d place).waiting

-- It takes the link at the place, or none.
abbrev pub IsNext : {X : Type 0} → DialInMemory X → Target → Option ℕ → Type 0
IsNext d t (Some place) = TakesAt d t place
IsNext d t None = next_link (dialling_of d) t ≡ None
