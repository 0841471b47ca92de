-- What an append does to a disk, and what a crash leaves of it.
use Rattle.std.specs.Prelude.{◌≡◌, ◌⊎◌, ℕ, ◌+◌, List, [], ◌∷◌, ◌++◌, length, Result, Ok, Err}
use Rattle.rb_base.specs.Devices.{Device, failed}
use Rattle.rb_disk.specs.Images.{Call, wrote, synced, DiskRecord, shown, moment, MayLeave, MayHaveLeft, further, with_calls, IsTear, IsLook}
use Rattle.rb_journal.specs.Form.{head, before_gate, StandsFor}

-- the four calls of an append, the latest first: the record and a closed gate behind its own gate, and then its own gate
abbrev pub append_calls : ℕ → List ℕ → List Call
append_calls gate text = synced ∷ wrote gate (1 ∷ []) ∷ synced ∷ wrote (gate + 1) text ∷ []

-- the calls of an append of which one failed, the latest first
pub data IsCutShort (gate : ℕ) (text : List ℕ) : List Call → Type 0 where
  at_record : (trace : List Call) → IsTear (gate + 1) (length text) trace → IsCutShort gate text trace
  at_first_sync : (trace : List Call) → IsLook trace → IsCutShort gate text (trace ++ wrote (gate + 1) text ∷ [])
  at_gate : (trace : List Call) → IsTear gate 1 trace → IsCutShort gate text (trace ++ synced ∷ wrote (gate + 1) text ∷ [])
  at_second_sync : (trace : List Call) → IsLook trace → IsCutShort gate text (trace ++ wrote gate (1 ∷ []) ∷ synced ∷ wrote (gate + 1) text ∷ [])

-- The calls of an append were made; or one of them failed, and no more.
abbrev pub MakesAppend : {E : Type 0} → ℕ → List ℕ → Result (Unit {0}) E → Device DiskRecord → Device DiskRecord → Type 0
MakesAppend gate text (Ok done) before after = after ≡ with_calls (append_calls gate text) before
MakesAppend gate text (Err e) before after = (calls : List Call) × IsCutShort gate text calls × (after ≡ failed (with_calls calls before))

-- The head and a closed gate were written and kept; or a call failed, and no more.
abbrev pub MakesBeginning : {E : Type 0} → Result (Unit {0}) E → Device DiskRecord → Device DiskRecord → Type 0
MakesBeginning (Ok done) before after = after ≡ with_calls (synced ∷ wrote 0 (head ++ 0 ∷ []) ∷ []) before
MakesBeginning (Err e) before after = (calls : List Call) × (after ≡ failed (with_calls calls before))

-- The disk stands for these payloads, their last gate is at that offset, and all of it is kept.
pub record Holds (disk : DiskRecord) (gate : ℕ) (payloads : List (List ℕ)) : Type 0 where
  pub stands : StandsFor (shown disk) payloads
  pub gate_is : gate ≡ length (before_gate payloads)
  pub kept : (image : List ℕ) → MayLeave disk image → image ≡ shown disk

-- The disk went on, and a crash at any moment since then leaves what has P.
pub record LeavesOnly (before after : DiskRecord) (P : List ℕ → Type 0) : Type 0 where
  pub calls : List Call
  pub is : after ≡ further calls before
  pub each : (image : List ℕ) → MayHaveLeft after (moment before) image → P image

-- the bytes stand for these payloads, or for these and one more
abbrev pub IsBeforeOrAfter : List (List ℕ) → List ℕ → List ℕ → Type 0
IsBeforeOrAfter payloads payload bytes = StandsFor bytes payloads ⊎ StandsFor bytes (payloads ++ payload ∷ [])
