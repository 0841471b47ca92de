-- What opening a journal makes of its disk.
use Rattle.std.proofs.Common.{◌≡◌, inl, inr, ℕ, false, List, [], ◌∷◌, ◌++◌, length, Option, Some, None, Result, Ok, Err, refl, sym, ◌∙◌, ap, subst, arith, append_assoc}
use Rattle.rb_base.specs.Devices.{Device, device, failed}
use Rattle.rb_disk.specs.Images.{Call, wrote, tore, synced, looked, DiskRecord, read_after, IsImage, IsImageSince, shown, further, told_further, with_calls, IsLook, Fails, IsLength}
use Rattle.rb_journal.specs.declared.stops.JournalStop.{JournalStop}
use Rattle.rb_journal.specs.declared.stops.JournalStop.TheVariants.{DiskFault, Closed, Full, NotAJournal, BadRecord, Memory}
use Rattle.rb_exec.specs.Hosted.{Hosted}
use Rattle.rb_journal.specs.Form.{before_gate, StandsFor}
use Rattle.rb_journal.specs.Appends.{Holds}
use Rattle.rb_journal.specs.Journals.{Keeps, TellsPayloads, CrashesAsBefore}
use Rattle.rb_journal.specs.Readings.{AreLooks, AreQuiet, Glanced, GlancesOrStops, SyncedAndGlanced, SyncsAndGlances, WhereLong, WhereTold, IsOpeningStop}
use Rattle.rb_journal.specs.Replays.{Reopens}
use Rattle.rb_journal.specs.Answers.{StopsOpening}
use Rattle.rb_journal.proofs.Calls.{joined, joined_failed}
use Rattle.rb_journal.proofs.Looks.{looks_read, looks_image, looks_more, trace_looks, glanced_twice}
use Rattle.rb_journal.proofs.Moments.{since_now}
use Rattle.rb_journal.proofs.OneReading.{stands_once}

quiet_looks : (looks rest : List Call) → AreLooks looks → AreQuiet rest → AreQuiet (looks ++ rest)
quiet_looks [] rest are quiet = quiet
quiet_looks (looked ∷ looks) rest are quiet = quiet_looks looks rest are quiet
quiet_looks (wrote at bytes ∷ looks) rest are quiet = absurd are
quiet_looks (tore at n shown ∷ looks) rest are quiet = absurd are
quiet_looks (synced ∷ looks) rest are quiet = absurd are

quiet_read : (first : List ℕ) (quiet calls : List Call) → AreQuiet quiet → read_after first (quiet ++ calls) ≡ read_after first calls
quiet_read first [] calls are = refl
quiet_read first (looked ∷ quiet) calls are = quiet_read first quiet calls are
quiet_read first (synced ∷ quiet) calls are = quiet_read first quiet calls are
quiet_read first (wrote at bytes ∷ quiet) calls are = absurd are
quiet_read first (tore at n shown ∷ quiet) calls are = absurd are

-- what the disk may leave after calls that write nothing it might have left before
module _ (first : List ℕ) (calls : List Call) (reads : IsImage first calls (read_after first calls)) where
  quiet_image : (quiet : List Call) (image : List ℕ) → AreQuiet quiet → IsImage first (quiet ++ calls) image → IsImage first calls image
  quiet_image [] image are h = h
  quiet_image (looked ∷ quiet) image are h = quiet_image quiet image are h
  quiet_image (synced ∷ quiet) image are h = subst (IsImage first calls) (sym (h ∙ quiet_read first quiet calls are)) reads
  quiet_image (wrote at bytes ∷ quiet) image are h = absurd are
  quiet_image (tore at n shown ∷ quiet) image are h = absurd are

  pub quiet_since : (quiet : List Call) (image : List ℕ) → AreQuiet quiet → IsImageSince (length calls) first (quiet ++ calls) image → IsImage first calls image
  quiet_since [] image are h = since_now (length calls) first calls image (omega arith) h
  quiet_since (looked ∷ quiet) image are (inl now) = quiet_image quiet image are now
  quiet_since (looked ∷ quiet) image are (inr before) = quiet_since quiet image are before.1
  quiet_since (synced ∷ quiet) image are (inl now) = quiet_image (synced ∷ quiet) image are now
  quiet_since (synced ∷ quiet) image are (inr before) = quiet_since quiet image are before.1
  quiet_since (wrote at bytes ∷ quiet) image are h = absurd are
  quiet_since (tore at n shown ∷ quiet) image are h = absurd are

-- ---- the calls

pub sync_fails : (a b : Device DiskRecord) → Fails IsLook a b → (calls : List Call) × AreQuiet calls × (b ≡ failed (with_calls calls a))
sync_fails a b fails = (fails.0, quiet_of fails.0 fails.1, fails.2)
  where
    quiet_of : (trace : List Call) → IsLook trace → AreQuiet trace
    quiet_of [] is = tt
    quiet_of (looked ∷ []) is = tt
    quiet_of (looked ∷ (call ∷ trace)) is = absurd is
    quiet_of (wrote at bytes ∷ trace) is = absurd is
    quiet_of (tore at n shown ∷ trace) is = absurd is
    quiet_of (synced ∷ trace) is = absurd is

pub len_fails : (a b c : Device DiskRecord) → b ≡ with_calls (synced ∷ []) a → Fails IsLook b c → (calls : List Call) × AreQuiet calls × (c ≡ failed (with_calls calls a))
len_fails a b c first fails =
    (fails.0 ++ synced ∷ [], quiet_looks fails.0 (synced ∷ []) (trace_looks fails.0 fails.1) tt, joined_failed fails.0 (synced ∷ []) a b c first fails.2)

pub reading_after : {A : Type 0} (result : Result A JournalStop) (a b c d : Device DiskRecord) → b ≡ with_calls (synced ∷ []) a → c ≡ with_calls (looked ∷ []) b → GlancesOrStops result c d → SyncsAndGlances result a d
reading_after result a b c d first second third = by_result result third
  where
    glance : Glanced c d → SyncedAndGlanced a d
    glance g =
        let both = glanced_twice b c d (looked ∷ [], tt, second) g in
        (both.0, both.1, joined both.0 (synced ∷ []) a b d first both.2)

    by_result : {B : Type 0} (r : Result B JournalStop) → GlancesOrStops r c d → SyncsAndGlances r a d
    by_result (Ok x) g = glance g
    by_result (Err DiskFault) g =
        let looks = g.0 ++ looked ∷ [] in
        (looks ++ synced ∷ [], quiet_looks looks (synced ∷ []) (looks_more g.0 (looked ∷ []) g.1 tt) tt, joined_failed looks (synced ∷ []) a b d first (joined_failed g.0 (looked ∷ []) b c d second g.2))
    by_result (Err Closed) g = glance g
    by_result (Err Full) g = glance g
    by_result (Err NotAJournal) g = glance g
    by_result (Err (BadRecord number)) g = glance g
    by_result (Err Memory) g = glance g

told_read : (P : List ℕ → Type 0) (n : ℕ) (t : Option DiskRecord) → IsLength n (told_further (synced ∷ []) t) → WhereLong (told_further (looked ∷ []) (told_further (synced ∷ []) t)) n P → WhereTold t P
told_read P n None len h = tt
told_read P n (Some d) len h = h (sym len)

pub reading_told : (P : List ℕ → Type 0) (n : ℕ) (a b c : Device DiskRecord) → b ≡ with_calls (synced ∷ []) a → IsLength n b.told → c ≡ with_calls (looked ∷ []) b → WhereLong c.told n P → WhereTold a.told P
reading_told P n a b c first len second h =
    let b_is : b.told ≡ told_further (synced ∷ []) a.told = ap (λ (d : Device DiskRecord). d.told) first in
    let c_is : c.told ≡ told_further (looked ∷ []) (told_further (synced ∷ []) a.told) = ap (λ (d : Device DiskRecord). d.told) second ∙ ap (λ (t : Option DiskRecord). told_further (looked ∷ []) t) b_is in
    told_read P n a.told (subst (λ (t : Option DiskRecord). IsLength n t) b_is len) (subst (λ (t : Option DiskRecord). WhereLong t n P) c_is h)

-- ---- the journal

crash_told : (t : Option DiskRecord) (calls : List Call) → ((d : DiskRecord) → IsImage d.first d.calls (shown d)) → AreQuiet calls → CrashesAsBefore t (told_further calls t)
crash_told None calls reads quiet = tt
crash_told (Some d) calls reads quiet = record { calls = calls; is = refl; each = λ image h. quiet_since d.first d.calls (reads d) calls image quiet h }

module _ {D : Type 0} (told : D → Option DiskRecord) (faults : D → ℕ) (reads : (d : DiskRecord) → IsImage d.first d.calls (shown d)) where
  quiet_crash : (disk new : D) (calls : List Call) → AreQuiet calls → told new ≡ told_further calls (told disk) → CrashesAsBefore (told disk) (told new)
  quiet_crash disk new calls quiet is = subst (λ (t : Option DiskRecord). CrashesAsBefore (told disk) t) (sym is) (crash_told (told disk) calls reads quiet)

  pub opened_crash : (disk new : D) → SyncedAndGlanced (device told faults disk) (device told faults new) → CrashesAsBefore (told disk) (told new)
  opened_crash disk new h = quiet_crash disk new (h.0 ++ synced ∷ []) (quiet_looks h.0 (synced ∷ []) h.1 tt) (ap (λ (d : Device DiskRecord). d.told) h.2)

  pub stopped_crash : (A : Type 0) (disk new : D) (stop : JournalStop) → SyncsAndGlances {A = A} (Err stop) (device told faults disk) (device told faults new) → CrashesAsBefore (told disk) (told new)
  stopped_crash A disk new DiskFault h = quiet_crash disk new h.0 h.1 (ap (λ (d : Device DiskRecord). d.told) h.2)
  stopped_crash A disk new Closed h = opened_crash disk new h
  stopped_crash A disk new Full h = opened_crash disk new h
  stopped_crash A disk new NotAJournal h = opened_crash disk new h
  stopped_crash A disk new (BadRecord number) h = opened_crash disk new h
  stopped_crash A disk new Memory h = opened_crash disk new h

  pub stopped_faults : (A : Type 0) (disk new : D) (stop : JournalStop) → IsOpeningStop stop → SyncsAndGlances {A = A} (Err stop) (device told faults disk) (device told faults new) → StopsOpening (faults disk) stop (faults new)
  stopped_faults A disk new DiskFault is h = ap (λ (d : Device DiskRecord). d.faults) h.2
  stopped_faults A disk new Closed is h = absurd is
  stopped_faults A disk new Full is h = absurd is
  stopped_faults A disk new NotAJournal is h = ap (λ (d : Device DiskRecord). d.faults) h.2
  stopped_faults A disk new (BadRecord number) is h = ap (λ (d : Device DiskRecord). d.faults) h.2
  stopped_faults A disk new Memory is h = ap (λ (d : Device DiskRecord). d.faults) h.2

holds_opened : (d : DiskRecord) (looks : List Call) (gate : ℕ) (payloads : List (List ℕ)) → AreLooks looks → StandsFor (shown d) payloads × (gate ≡ length (before_gate payloads)) → Holds (further (looks ++ synced ∷ []) d) gate payloads
holds_opened d looks gate payloads are h =
    let grouped : (looks ++ synced ∷ []) ++ d.calls ≡ looks ++ synced ∷ d.calls = append_assoc looks (synced ∷ []) d.calls in
    let same : shown (further (looks ++ synced ∷ []) d) ≡ shown d = ap (λ (cs : List Call). read_after d.first cs) grouped ∙ looks_read d.first looks (synced ∷ d.calls) are in
    record {
      stands = subst (λ (b : List ℕ). StandsFor b payloads) (sym same) h.0;
      gate_is = h.1;
      kept = λ image left. looks_image d.first looks (synced ∷ d.calls) image are (subst (λ (cs : List Call). IsImage d.first cs image) grouped left) ∙ sym same;
    }

-- what was reopened, told by the payloads for which the bytes stand
reopened_as : (bytes : List ℕ) (gate : ℕ) (before after : Hosted) (payloads : List (List ℕ)) → Reopens bytes gate before after → StandsFor bytes payloads → gate ≡ length (before_gate payloads)
reopened_as bytes gate before after payloads r stands = r.gate_is ∙ ap (λ (ps : List (List ℕ)). length (before_gate ps)) (stands_once bytes r.payloads payloads r.stands stands)

keeps_told : {D : Type 0} (told : D → Option DiskRecord) (new : D) (t : Option DiskRecord) (looks : List Call) (gate : ℕ) (before after : Hosted) (payloads : List (List ℕ))
    → AreLooks looks → TellsPayloads t payloads → told new ≡ told_further (looks ++ synced ∷ []) t → WhereTold t (λ bytes. Reopens bytes gate before after) → Keeps told (record { disk = new; gate = gate; is_closed = false }) payloads
keeps_told told new None looks gate before after payloads are stands is h = absurd stands
keeps_told told new (Some d) looks gate before after payloads are stands is h =
    record {
      record_is = further (looks ++ synced ∷ []) d;
      tells = is;
      is_open = refl;
      holds = holds_opened d looks gate payloads are (stands, reopened_as (shown d) gate before after payloads h stands);
    }

pub keeps_opened : {D : Type 0} (told : D → Option DiskRecord) (faults : D → ℕ) (disk new : D) (gate : ℕ) (before after : Hosted) (payloads : List (List ℕ))
    → TellsPayloads (told disk) payloads → SyncedAndGlanced (device told faults disk) (device told faults new) → WhereTold (told disk) (λ bytes. Reopens bytes gate before after)
    → Keeps told (record { disk = new; gate = gate; is_closed = false }) payloads
keeps_opened told faults disk new gate before after payloads stands glanced h =
    keeps_told told new (told disk) glanced.0 gate before after payloads glanced.1 stands (ap (λ (d : Device DiskRecord). d.told) glanced.2) h
