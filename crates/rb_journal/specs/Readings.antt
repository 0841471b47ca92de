-- What is read of a disk, and what reading leaves of it.
use Rattle.std.specs.Prelude.{◌≡◌, ◌<◌, ◌≤◌, ℕ, ◌+◌, List, [], ◌∷◌, ◌++◌, length, take, Option, Some, None, Result, Ok, Err}
use Rattle.std.specs.Int.{w32, to_be_bytes}
use Rattle.rb_base.specs.Devices.{Device, failed}
use Rattle.rb_disk.specs.Images.{Call, wrote, tore, synced, looked, DiskRecord, shown, with_calls}
use Rattle.rb_journal.specs.declared.stops.JournalStop.{JournalStop}
use Rattle.rb_journal.specs.declared.stops.JournalStop.TheVariants.{DiskFault, Closed, Full, NotAJournal, BadRecord, Memory}
use Rattle.rb_exec.specs.Hosted.{Hosted}
use Rattle.rb_journal.specs.Form.{IsPayload, IsAccepted, record_of, before_gate, IsNoJournal, HasBadRecord}
use Rattle.rb_journal.specs.Replays.{Reopens}

-- The only stops of reading a record.
abbrev pub IsFaultOrMemory : JournalStop → Type 0
IsFaultOrMemory DiskFault = Unit {0}
IsFaultOrMemory Memory = Unit {0}
IsFaultOrMemory Closed = ⊥
IsFaultOrMemory Full = ⊥
IsFaultOrMemory NotAJournal = ⊥
IsFaultOrMemory (BadRecord number) = ⊥

-- calls that change nothing
abbrev pub AreLooks : List Call → Type 0
AreLooks [] = Unit {0}
AreLooks (looked ∷ calls) = AreLooks calls
AreLooks (wrote at bytes ∷ calls) = ⊥
AreLooks (tore at n shown ∷ calls) = ⊥
AreLooks (synced ∷ calls) = ⊥

-- The disk was only looked at.
abbrev pub Glanced : Device DiskRecord → Device DiskRecord → Type 0
Glanced before after = (calls : List Call) × AreLooks calls × (after ≡ with_calls calls before)

-- The disk was only looked at, and one call failed.
abbrev pub GlancedAndFailed : Device DiskRecord → Device DiskRecord → Type 0
GlancedAndFailed before after = (calls : List Call) × AreLooks calls × (after ≡ failed (with_calls calls before))

-- A call of which each error is a fault of the disk only looked at it.
abbrev pub Glances : {A E : Type 0} → Result A E → Device DiskRecord → Device DiskRecord → Type 0
Glances (Ok x) before after = Glanced before after
Glances (Err e) before after = GlancedAndFailed before after

-- The same, where the stop says whether the disk failed.
abbrev pub GlancesOrStops : {A : Type 0} → Result A JournalStop → Device DiskRecord → Device DiskRecord → Type 0
GlancesOrStops (Ok x) before after = Glanced before after
GlancesOrStops (Err DiskFault) before after = GlancedAndFailed before after
GlancesOrStops (Err stop) before after = Glanced before after

-- calls that write nothing
abbrev pub AreQuiet : List Call → Type 0
AreQuiet [] = Unit {0}
AreQuiet (looked ∷ calls) = AreQuiet calls
AreQuiet (synced ∷ calls) = AreQuiet calls
AreQuiet (wrote at bytes ∷ calls) = ⊥
AreQuiet (tore at n shown ∷ calls) = ⊥

-- The disk was synced, and then only looked at.
abbrev pub SyncedAndGlanced : Device DiskRecord → Device DiskRecord → Type 0
SyncedAndGlanced before after = (looks : List Call) × AreLooks looks × (after ≡ with_calls (looks ++ synced ∷ []) before)

-- The disk was synced, and then only looked at; at a fault no byte was written, and one call failed.
abbrev pub SyncsAndGlances : {A : Type 0} → Result A JournalStop → Device DiskRecord → Device DiskRecord → Type 0
SyncsAndGlances (Ok x) before after = SyncedAndGlanced before after
SyncsAndGlances (Err DiskFault) before after = (calls : List Call) × AreQuiet calls × (after ≡ failed (with_calls calls before))
SyncsAndGlances (Err stop) before after = SyncedAndGlanced before after

-- The only stops of opening a journal.
abbrev pub IsOpeningStop : JournalStop → Type 0
IsOpeningStop DiskFault = Unit {0}
IsOpeningStop NotAJournal = Unit {0}
IsOpeningStop (BadRecord number) = Unit {0}
IsOpeningStop Memory = Unit {0}
IsOpeningStop Closed = ⊥
IsOpeningStop Full = ⊥

-- the bytes that a read shows, where the disk tells and has that many
abbrev pub WhereLong : Option DiskRecord → ℕ → (List ℕ → Type 0) → Type 0
WhereLong None end P = Unit {0}
WhereLong (Some d) end P = length (shown d) ≡ end → P (shown d)

-- the bytes that a read shows, where the disk tells
abbrev pub WhereTold : Option DiskRecord → (List ℕ → Type 0) → Type 0
WhereTold None P = Unit {0}
WhereTold (Some d) P = P (shown d)

-- The bytes begin with the record of a payload and its next gate; or with no record.
abbrev pub FindsRecord : List ℕ → Option (List ℕ × ℕ) → Type 0
FindsRecord bytes (Some found) = IsPayload found.0 × (rest : List ℕ) × (bytes ≡ record_of found.0 ++ found.1 ∷ rest)
FindsRecord bytes None = (payload : List ℕ) (gate : ℕ) (rest : List ℕ) → IsPayload payload → bytes ≡ record_of payload ++ gate ∷ rest → ⊥

-- The bytes begin with the length of a record for which there is room; or with no record.
abbrev pub FindsSize : List ℕ → Option ℕ → Type 0
FindsSize bytes (Some size) = (size ≤ 16777216) × (take 4 bytes ≡ to_be_bytes w32 size) × (size + 4 < length bytes)
FindsSize bytes None = (payload : List ℕ) (gate : ℕ) (rest : List ℕ) → IsPayload payload → bytes ≡ record_of payload ++ gate ∷ rest → ⊥

-- The bytes begin with a payload of that size that is accepted, and a gate; or with none.
abbrev pub FindsPayload : List ℕ → ℕ → Option (List ℕ × ℕ) → Type 0
FindsPayload bytes size (Some found) = (length found.0 ≡ size) × IsAccepted found.0 × (rest : List ℕ) × (bytes ≡ found.0 ++ found.1 ∷ rest)
FindsPayload bytes size None = (payload : List ℕ) (gate : ℕ) (rest : List ℕ) → length payload ≡ size → IsAccepted payload → bytes ≡ payload ++ gate ∷ rest → ⊥

-- The bytes begin as a journal whose first gate is this; or they don't.
abbrev pub FindsHead : List ℕ → Option ℕ → Type 0
FindsHead bytes (Some gate) = (rest : List ℕ) × (bytes ≡ before_gate [] ++ gate ∷ rest)
FindsHead bytes None = IsNoJournal bytes

-- Why bytes can't be read as a journal.
abbrev pub StopsAs : List ℕ → JournalStop → Type 0
StopsAs bytes NotAJournal = IsNoJournal bytes
StopsAs bytes (BadRecord number) = HasBadRecord bytes number
StopsAs bytes DiskFault = Unit {0}
StopsAs bytes Memory = Unit {0}
StopsAs bytes Closed = ⊥
StopsAs bytes Full = ⊥

-- Each answer of reading a journal: the offset of its last gate, with its payloads performed on the host; or why it can't be read.
abbrev pub ReadsAs : List ℕ → Hosted → Hosted → Result ℕ JournalStop → Type 0
ReadsAs bytes before after (Ok gate) = Reopens bytes gate before after
ReadsAs bytes before after (Err stop) = StopsAs bytes stop

-- Nothing stops the bytes from being opened but a call that fails, or want of memory.
abbrev pub IsOpened : List ℕ → Type 0
IsOpened bytes = (stop : JournalStop) → StopsAs bytes stop → IsFaultOrMemory stop
