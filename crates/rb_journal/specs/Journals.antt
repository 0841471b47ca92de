-- A journal as callers see it.
use Rattle.std.specs.Prelude.{◌≡◌, ◌≤◌, ℕ, Bool, false, List, [], ◌++◌, length, take, Option, None, Some}
use Rattle.rb_journal.specs.Form.{StandsFor}
use Rattle.rb_disk.specs.Images.{DiskRecord, shown, MayLeave}
use Rattle.rb_journal.specs.Appends.{Holds, LeavesOnly, IsBeforeOrAfter}

-- its disk, the offset of its last gate, and whether it is closed
pub record SeenJournal (D : Type 0) : Type 0 where
  pub disk : D
  pub gate : ℕ
  pub is_closed : Bool

-- The disk tells, and the journal isn't closed and keeps these payloads: the disk stands for them, all of it is kept, and the
-- journal's gate is the one behind them.
pub record Keeps {D : Type 0} (told : D → Option DiskRecord) (journal : SeenJournal D) (payloads : List (List ℕ)) : Type 0 where
  pub record_is : DiskRecord
  pub tells : told journal.disk ≡ Some record_is
  pub is_open : journal.is_closed ≡ false
  pub holds : Holds record_is journal.gate payloads

-- The disk tells, and reads as these payloads.
abbrev pub TellsPayloads : Option DiskRecord → List (List ℕ) → Type 0
TellsPayloads None payloads = ⊥
TellsPayloads (Some d) payloads = StandsFor (shown d) payloads

-- The journal keeps the payloads for which the bytes of the disk stood.
abbrev pub KeepsWhatStood : {D : Type 0} → (D → Option DiskRecord) → D → SeenJournal D → Type 0
KeepsWhatStood told disk journal = (payloads : List (List ℕ)) → TellsPayloads (told disk) payloads → Keeps told journal payloads

-- The journal keeps what it kept before, and these payloads behind it.
abbrev pub KeepsMore : {D : Type 0} → (D → Option DiskRecord) → SeenJournal D → List (List ℕ) → SeenJournal D → Type 0
KeepsMore told old more new = (payloads : List (List ℕ)) → Keeps told old payloads → Keeps told new (payloads ++ more)

-- The disk went on, and a crash at any moment since then leaves what has P, where the disk tells.
abbrev pub CrashesOnly : Option DiskRecord → Option DiskRecord → (List ℕ → Type 0) → Type 0
CrashesOnly None after P = Unit {0}
CrashesOnly (Some before) None P = ⊥
CrashesOnly (Some before) (Some after) P = LeavesOnly before after P

-- The disk went on, and a crash at any moment since then leaves what it might have left before, where the disk tells.
abbrev pub CrashesAsBefore : Option DiskRecord → Option DiskRecord → Type 0
CrashesAsBefore None after = Unit {0}
CrashesAsBefore (Some before) None = ⊥
CrashesAsBefore (Some before) (Some after) = LeavesOnly before after (MayLeave before)

-- No byte stands on the disk, where it tells.
abbrev pub IsEmpty : Option DiskRecord → Type 0
IsEmpty None = Unit {0}
IsEmpty (Some d) = shown d ≡ []

-- The bytes stand for these payloads and a front of those.
abbrev pub IsFrontOf : List (List ℕ) → List (List ℕ) → List ℕ → Type 0
IsFrontOf before payloads bytes = (count : ℕ) × (count ≤ length payloads) × StandsFor bytes (before ++ take count payloads)

-- A crash at any moment of an append leaves the payloads that were kept before it, or these and the new one.
abbrev pub LeavesBeforeOrAfter : {D : Type 0} → (D → Option DiskRecord) → SeenJournal D → List ℕ → SeenJournal D → Type 0
LeavesBeforeOrAfter told old payload new =
    (payloads : List (List ℕ)) → Keeps told old payloads → CrashesOnly (told old.disk) (told new.disk) (IsBeforeOrAfter payloads payload)

-- A crash at any moment of a run of appends leaves the payloads that were kept before it, and a front of those of the run.
abbrev pub LeavesFronts : {D : Type 0} → (D → Option DiskRecord) → SeenJournal D → List (List ℕ) → SeenJournal D → Type 0
LeavesFronts told old more new =
    (payloads : List (List ℕ)) → Keeps told old payloads → CrashesOnly (told old.disk) (told new.disk) (IsFrontOf payloads more)
