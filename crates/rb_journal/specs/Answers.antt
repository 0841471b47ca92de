-- When each answer of a journal comes, and what it leaves.
use Rattle.std.specs.Prelude.{◌≡◌, ℕ, ◌+◌, ◌^◌, ◌<◌, ◌≤◌, true, false, List, length, Result, Ok, Err}
use Rattle.rb_base.specs.Counts.{risen}
use Rattle.rb_journal.specs.declared.stops.JournalStop.{JournalStop}
use Rattle.rb_journal.specs.declared.stops.JournalStop.TheVariants.{DiskFault, Closed, Full, NotAJournal, BadRecord, Memory}
use Rattle.rb_journal.specs.Journals.{SeenJournal}

-- The record and its next gate end within 2 ^ 40 bytes.
abbrev pub HasRoom : ℕ → List ℕ → Type 0
HasRoom gate payload = gate + 6 + length payload ≤ 2 ^ 40

-- Each answer of an append, and what it leaves.
abbrev pub AnswersAppend : {D : Type 0} → (D → ℕ) → List ℕ → Result (Unit {0}) JournalStop → SeenJournal D → SeenJournal D → Type 0
AnswersAppend faults payload (Ok done) old new =
    (old.is_closed ≡ false) × HasRoom old.gate payload × (new.is_closed ≡ false) × (new.gate ≡ old.gate + 5 + length payload) × (faults new.disk ≡ faults old.disk)
AnswersAppend faults payload (Err DiskFault) old new =
    (old.is_closed ≡ false) × HasRoom old.gate payload × (new.is_closed ≡ true) × (new.gate ≡ old.gate) × (faults new.disk ≡ risen (faults old.disk))
AnswersAppend faults payload (Err Closed) old new = (old.is_closed ≡ true) × (new ≡ old)
AnswersAppend faults payload (Err Full) old new = (old.is_closed ≡ false) × (2 ^ 40 < old.gate + 6 + length payload) × (new ≡ old)
AnswersAppend faults payload (Err Memory) old new = (old.is_closed ≡ false) × HasRoom old.gate payload × (new ≡ old)
AnswersAppend faults payload (Err NotAJournal) old new = ⊥
AnswersAppend faults payload (Err (BadRecord number)) old new = ⊥

-- A journal that was begun on this disk: its gate stands behind the head, and no call failed.
pub record IsFresh {D : Type 0} (faults : D → ℕ) (disk : D) (journal : SeenJournal D) : Type 0 where
  pub gate_is : journal.gate ≡ 4
  pub is_open : journal.is_closed ≡ false
  pub no_fault : faults journal.disk ≡ faults disk

-- Each stop of opening, with the count of the disk's faults before and after.
abbrev pub StopsOpening : ℕ → JournalStop → ℕ → Type 0
StopsOpening before DiskFault after = after ≡ risen before
StopsOpening before NotAJournal after = after ≡ before
StopsOpening before (BadRecord number) after = after ≡ before
StopsOpening before Memory after = after ≡ before
StopsOpening before Closed after = ⊥
StopsOpening before Full after = ⊥
