-- Links of two kinds.
use Rattle.std.specs.Prelude.{ℕ, Bool, true, false, Option, Some}
use Rattle.rb_meaning.specs.Links.{Told, server_told, TellsTyped}
use Rattle.rb_session.specs.MemoryLinks.{told_of, IsHonest}
use Rattle.rb_session.specs.declared.any_link.AnyLink.{AnyLink}
use Rattle.rb_session.specs.declared.any_link.AnyLink.TheVariants.{Dialled, Around}

-- what it tells: what the link that it holds tells
abbrev pub told_by_any : {X : Type 0} → (X → Option Told) → AnyLink X → Option Told
told_by_any told (Dialled x) = told x
told_by_any told (Around l) = Some (told_of l)

-- how many exchanges failed; none does over a link in memory
abbrev pub faults_of_any : {X : Type 0} → (X → ℕ) → AnyLink X → ℕ
faults_of_any faults (Dialled x) = faults x
faults_of_any faults (Around l) = 0

-- A dialled link lends no table, whatever it holds.
abbrev pub lends_any : {X : Type 0} → AnyLink X → Bool
lends_any (Dialled x) = false
lends_any (Around l) = true

-- It is quiet where the link that it holds is, as one in memory is always.
abbrev pub IsQuietAny : {X : Type 0} → (X → Type 0) → AnyLink X → Type 0
IsQuietAny quiet (Dialled x) = quiet x
IsQuietAny quiet (Around l) = Unit {0}

-- It is honest where the link that it holds is.
abbrev pub IsHonestAny : {X : Type 0} → (X → Type 0) → AnyLink X → Type 0
IsHonestAny honest (Dialled x) = honest x
IsHonestAny honest (Around l) = IsHonest l

pub honest_tells : {X : Type 0} (told : X → Option Told) (honest : X → Type 0) → ((x : X) → honest x → TellsTyped (server_told (told x)))
    → (l : AnyLink X) → IsHonestAny honest l → TellsTyped (server_told (told_by_any told l))
honest_tells told honest tells (Dialled x) h = tells x h
honest_tells told honest tells (Around l) h = h.typed
