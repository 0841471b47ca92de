-- Stores in memory.
use Rattle.std.specs.Prelude.{ℕ, ◌==◌, List, [], ◌∷◌, ◌++◌, map, cond, Option, None, Some, option_map}
use Rattle.std.specs.List.{list_any}
use Rattle.rb_base.specs.Counts.{risen}
use Rattle.rb_base.specs.Devices.{Device}
use Rattle.rb_disk.specs.Images.{DiskRecord}
use Rattle.rb_disk.specs.MemoryDisks.{DiskInMemory, seen_device}
use Rattle.rb_disk.specs.Storing.{Places, Storing, disk_under, emptied, is_out}

-- a store in memory: its places, the number of calls of `open` so far, the numbers of those that fail, from 1, how many calls
-- failed, and how many of the disks that came back were broken
pub record StoreInMemory : Type 0 where
  pub places : Places DiskInMemory
  pub opens : ℕ
  pub failing : List ℕ
  pub faults : ℕ
  pub broken : ℕ

-- no place, and no call so far
abbrev pub new_store : List ℕ → StoreInMemory
new_store failing = record { places = []; opens = 0; failing = failing; faults = 0; broken = 0 }

-- the store with one place more, behind the others
abbrev pub with_disk : StoreInMemory → List ℕ → DiskInMemory → StoreInMemory
with_disk s name disk = record s { places = s.places ++ (name, Some disk) ∷ [] }

-- places, of which each tells what its disk does
abbrev pub told_places : Places DiskInMemory → Places (Device DiskRecord)
told_places places = map (λ p. (p.0, option_map seen_device p.1)) places

-- what a store in memory tells
abbrev pub storing_of : StoreInMemory → Storing
storing_of s = record { places = told_places s.places; opens = s.opens; failing = s.failing }

-- a disk of which no call failed since now
abbrev pub reopened_disk : DiskInMemory → DiskInMemory
reopened_disk d = record d { faults = 0 }

-- the disk that the next call of `open` finds under a name, or None where it fails
abbrev pub next_in_memory : StoreInMemory → List ℕ → Option DiskInMemory
next_in_memory s name = cond (list_any (λ n. n == risen s.opens) s.failing) None (cond (is_out s.places) None (disk_under s.places name))

-- the store after a call of `open` that found this disk under a name, or none
abbrev pub without_next : Option DiskInMemory → List ℕ → StoreInMemory → StoreInMemory
without_next (Some disk) name s = record s { places = emptied s.places name; opens = risen s.opens }
without_next None name s = record s { opens = risen s.opens }
