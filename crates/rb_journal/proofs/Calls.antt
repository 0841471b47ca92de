-- One call after the other.
use Rattle.std.proofs.Common.{◌≡◌, ℕ, ◌+◌, List, [], ◌∷◌, ◌++◌, Option, Some, None, Result, Ok, Err, refl, sym, ◌∙◌, ap, append_assoc}
use Rattle.rb_base.specs.Devices.{Device, failed}
use Rattle.rb_disk.specs.Images.{Call, wrote, synced, DiskRecord, told_further, with_calls, Syncs}
use Rattle.rb_journal.specs.Appends.{MakesAppend, at_second_sync, MakesBeginning}

told_twice : (later earlier : List Call) (told : Option DiskRecord) → told_further later (told_further earlier told) ≡ told_further (later ++ earlier) told
told_twice later earlier None = refl
told_twice later earlier (Some d) = ap (λ (cs : List Call). Some (record d { calls = cs })) (sym (append_assoc later earlier d.calls))

pub with_twice : (later earlier : List Call) (d : Device DiskRecord) → with_calls later (with_calls earlier d) ≡ with_calls (later ++ earlier) d
with_twice later earlier d = ap (λ (t : Option DiskRecord). record d { told = t }) (told_twice later earlier d.told)

pub joined : (later earlier : List Call) (before mid after : Device DiskRecord) → mid ≡ with_calls earlier before → after ≡ with_calls later mid → after ≡ with_calls (later ++ earlier) before
joined later earlier before mid after first second = second ∙ ap (λ (d : Device DiskRecord). with_calls later d) first ∙ with_twice later earlier before

pub joined_failed : (later earlier : List Call) (before mid after : Device DiskRecord) → mid ≡ with_calls earlier before → after ≡ failed (with_calls later mid) → after ≡ failed (with_calls (later ++ earlier) before)
joined_failed later earlier before mid after first second = second ∙ ap (λ (d : Device DiskRecord). failed (with_calls later d)) first ∙ ap (λ (d : Device DiskRecord). failed d) (with_twice later earlier before)

-- the last call of a beginning
pub begin_sync : {E : Type 0} (result : Result (Unit {0}) E) (before mid after : Device DiskRecord)
    → mid ≡ with_calls (wrote 0 (0x52 ∷ 0x42 ∷ 0x4a ∷ 1 ∷ 0 ∷ []) ∷ []) before → Syncs result mid after → MakesBeginning result before after
begin_sync (Ok done) before mid after first h = joined (synced ∷ []) (wrote 0 (0x52 ∷ 0x42 ∷ 0x4a ∷ 1 ∷ 0 ∷ []) ∷ []) before mid after first h
begin_sync (Err e) before mid after first h = (h.0 ++ wrote 0 (0x52 ∷ 0x42 ∷ 0x4a ∷ 1 ∷ 0 ∷ []) ∷ [], joined_failed h.0 (wrote 0 (0x52 ∷ 0x42 ∷ 0x4a ∷ 1 ∷ 0 ∷ []) ∷ []) before mid after first h.2)

-- the last call of an append
pub last_sync : {E : Type 0} (gate : ℕ) (text : List ℕ) (result : Result (Unit {0}) E) (before mid after : Device DiskRecord)
    → mid ≡ with_calls (wrote gate (1 ∷ []) ∷ synced ∷ wrote (gate + 1) text ∷ []) before → Syncs result mid after → MakesAppend gate text result before after
last_sync gate text (Ok done) before mid after first h = joined (synced ∷ []) (wrote gate (1 ∷ []) ∷ synced ∷ wrote (gate + 1) text ∷ []) before mid after first h
last_sync gate text (Err e) before mid after first h =
    (h.0 ++ wrote gate (1 ∷ []) ∷ synced ∷ wrote (gate + 1) text ∷ [], at_second_sync h.0 h.1, joined_failed h.0 (wrote gate (1 ∷ []) ∷ synced ∷ wrote (gate + 1) text ∷ []) before mid after first h.2)
