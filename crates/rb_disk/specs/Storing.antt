-- What a store of disks tells, and what its calls do to that.
use Rattle.std.specs.Prelude.{◌≡◌, ◌==◌, ℕ, zero, suc, List, [], ◌∷◌, Bool, true, false, Option, None, Some, option_map, is_none, Result, Ok, Err, cond}
use Rattle.std.specs.List.{list_any}
use Rattle.std.specs.Str.{bytes_eq}
use Rattle.rb_base.specs.Counts.{risen}
use Rattle.rb_base.specs.Devices.{Device}
use Rattle.rb_disk.specs.Images.{DiskRecord}

-- Places of disks, each with a name. A place is empty while its disk is out.
abbrev pub Places : Type 0 → Type 0
Places A = List (List ℕ × Option A)

-- the disk in the first place of a name, where there is such a place and it isn't empty
abbrev pub disk_under : {A : Type 0} → Places A → List ℕ → Option A
disk_under [] name = None
disk_under (p ∷ ps) name = cond (bytes_eq p.0 name) p.1 (disk_under ps name)

-- the places after the disk of a name was taken out of the first place of it
abbrev pub emptied : {A : Type 0} → Places A → List ℕ → Places A
emptied [] name = []
emptied (p ∷ ps) name = cond (bytes_eq p.0 name) ((p.0, None) ∷ ps) (p ∷ emptied ps name)

-- the places after a disk was put into the first empty place
abbrev pub filled : {A : Type 0} → Places A → A → Places A
filled [] disk = []
filled ((name, None) ∷ ps) disk = (name, Some disk) ∷ ps
filled ((name, Some other) ∷ ps) disk = (name, Some other) ∷ filled ps disk

-- whether a place is empty
abbrev pub is_out : {A : Type 0} → Places A → Bool
is_out ps = list_any (λ p. is_none p.1) ps

-- The places, each with what its disk tells and the count of its faults; the number of calls of `open` so far; and the numbers
-- of those that fail, from 1.
pub record Storing : Type 0 where
  pub places : Places (Device DiskRecord)
  pub opens : ℕ
  pub failing : List ℕ

-- the disk that the next call of `open` finds under a name, or None where it fails: it is listed, or a disk is out, or no place
-- has the name
abbrev pub next_disk : Storing → List ℕ → Option (Device DiskRecord)
next_disk s name = cond (list_any (λ n. n == risen s.opens) s.failing) None (cond (is_out s.places) None (disk_under s.places name))

-- a disk as it is opened: it goes on, and no call of it failed since then
abbrev pub reopened : Device DiskRecord → Device DiskRecord
reopened d = record d { faults = 0 }

-- the disk that was handed out, as contracts see it
abbrev pub handed : {D E : Type 0} → (D → Device DiskRecord) → Result D E → Option (Device DiskRecord)
handed device_of (Ok disk) = Some (device_of disk)
handed device_of (Err e) = None

-- The disk that stands under the name was handed out; or none, where the call fails. So it is as far as the store tells.
abbrev pub OpensNext : List ℕ → Option (Device DiskRecord) → Option Storing → Type 0
OpensNext name answer None = Unit {0}
OpensNext name answer (Some s) = answer ≡ option_map reopened (next_disk s name)

-- a store as its trait's members see it: what it tells, where it tells anything; how many calls of `open` failed; and how many
-- of the disks that came back were broken
pub record StoreSeen : Type 0 where
  pub told : Option Storing
  pub faults : ℕ
  pub broken : ℕ

abbrev pub seen : {S : Type 0} → (S → Option Storing) → (S → ℕ) → (S → ℕ) → S → StoreSeen
seen told faults broken s = record { told = told s; faults = faults s; broken = broken s }

-- what is told after a call of `open` that was answered so
abbrev pub told_after_open : {D E : Type 0} → List ℕ → Result D E → Storing → Storing
told_after_open name (Ok disk) s = record s { places = emptied s.places name; opens = risen s.opens }
told_after_open name (Err e) s = record s { opens = risen s.opens }

-- the count of faults after a call of `open` that was answered so
abbrev pub faults_after_open : {D E : Type 0} → Result D E → ℕ → ℕ
faults_after_open (Ok disk) n = n
faults_after_open (Err e) n = risen n

-- the store after a call of `open` that was answered so
abbrev pub after_open : {D E : Type 0} → List ℕ → Result D E → StoreSeen → StoreSeen
after_open name answer s = record s { told = option_map (told_after_open name answer) s.told; faults = faults_after_open answer s.faults }

-- A disk is out, as far as the store tells.
abbrev pub HasOneOut : Option Storing → Type 0
HasOneOut None = Unit {0}
HasOneOut (Some s) = is_out s.places ≡ true

-- what is told after a disk came back
abbrev pub told_after_back : Device DiskRecord → Storing → Storing
told_after_back disk s = record s { places = filled s.places disk }

-- the count of broken disks after one came back that counts so many faults: it rises exactly where that isn't 0
abbrev pub broken_after : ℕ → ℕ → ℕ
broken_after zero n = n
broken_after (suc k) n = risen n

-- the store after a disk came back
abbrev pub after_back : Device DiskRecord → StoreSeen → StoreSeen
after_back disk s = record s { told = option_map (told_after_back disk) s.told; broken = broken_after disk.faults s.broken }
