-- A disk in memory.
use Rattle.std.specs.Prelude.{◌≡◌, ℕ, ◌==◌, Bool, List, [], ◌∷◌, ◌++◌, Some}
use Rattle.std.specs.List.{list_any}
use Rattle.rb_disk.specs.declared.disk_calls.DiskCall.{DiskCall}
use Rattle.rb_disk.specs.declared.disk_calls.DiskCall.TheVariants as made
use Rattle.rb_base.specs.Counts.{risen}
use Rattle.rb_base.specs.Devices.{Device}
use Rattle.rb_disk.specs.Images.{Call, wrote, tore, synced, looked, DiskRecord}

-- a call without where it lies in memory
abbrev pub call_of : DiskCall → Call
call_of (made.Wrote at bytes) = wrote at bytes
call_of (made.Tore at count) = tore at count []
call_of made.Synced = synced
call_of made.Looked = looked

-- calls that are kept the first of them first, the latest first
abbrev pub latest_first : List DiskCall → List Call
latest_first [] = []
latest_first (call ∷ calls) = latest_first calls ++ call_of call ∷ []

-- a disk in memory: the record of its calls, the number of calls so far, the numbers of the calls that fail, from 1, and how
-- many calls failed
pub record DiskInMemory : Type 0 where
  pub told : DiskRecord
  pub calls : ℕ
  pub failing : List ℕ
  pub faults : ℕ

-- no call made yet
abbrev pub new_disk : List ℕ → List ℕ → DiskInMemory
new_disk bytes failing = record { told = record { first = bytes; calls = [] }; calls = 0; failing = failing; faults = 0 }

-- whether the next call is one of those that fail
abbrev pub fails_next : DiskInMemory → Bool
fails_next d = list_any (λ n. n == risen d.calls) d.failing

-- the disk as any code sees it
abbrev pub seen_device : DiskInMemory → Device DiskRecord
seen_device d = record { told = Some d.told; faults = d.faults }

-- One call more was made, and the list is as it was.
abbrev pub CountsCall : DiskInMemory → DiskInMemory → Type 0
CountsCall old new = (new.calls ≡ risen old.calls) × (new.failing ≡ old.failing)
