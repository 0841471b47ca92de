-- A journal is begun on an empty disk, or opened.
use Rattle.std.proofs.Common.{◌≡◌, ◌≢◌, refl, ap, sym, ◌∙◌, subst, ℕ, false, List, [], ◌∷◌, length, inl, inr, Option, Some}
use Rattle.std.specs.Prelude.{IsSome}
use Rattle.rb_base.specs.Counts.{risen}
use Rattle.rb_base.specs.Devices.{device}
use Rattle.rb_disk.specs.Images.{DiskRecord, IsLength, further, looked, shown, told_further}
use Rattle.rb_exec.specs.Hosted.{Hosted}
use Rattle.rb_journal.specs.Answers.{IsFresh, StopsOpening}
use Rattle.rb_journal.specs.Journals.{Keeps, KeepsWhatStood, SeenJournal, TellsPayloads}
use Rattle.rb_journal.specs.Readings.{IsOpeningStop, StopsAs, WhereTold}
use Rattle.rb_journal.specs.Replays.{Reopens}
use Rattle.rb_journal.specs.declared.stops.JournalStop.{JournalStop}
use Rattle.rb_journal.specs.declared.stops.JournalStop.TheVariants as stops
use Rattle.rb_top.specs.KeepParts.{BeginsBy}
use Rattle.rb_top.specs.KeepRuns.{FailsToBegin, faults_by}

no_bytes : (bytes : List ℕ) → 0 ≡ length bytes → bytes ≡ []
no_bytes [] e = refl
no_bytes (b ∷ bytes) e = absurd (cc e)

module _ {D : Type 0} (told : D → Option DiskRecord) (faults : D → ℕ) (disk mid : D) where
  -- the length was read, and the disk tells as before
  abbrev LookedAt : Type 0
  LookedAt = device told faults mid ≡ record { told = told_further (looked ∷ []) (told disk); faults = faults disk }

  tells_on : LookedAt → (d : DiskRecord) → told disk ≡ Some d → told mid ≡ Some (further (looked ∷ []) d)
  tells_on same d tells = ap (λ x. x.told) same ∙ ap (told_further (looked ∷ [])) tells

  pub begun_new : (host : Hosted) (journal : SeenJournal D) → LookedAt → IsLength 0 (told disk) → faults disk ≡ 0 → (IsSome (told mid) → Keeps told journal []) → IsFresh faults mid journal
      → BeginsBy told faults disk host journal host
  begun_new host journal same size fresh keeps made = record {
    resumes = λ d tells. record {
      payloads = [];
      are = inl (no_bytes (shown d) (subst (IsLength 0) tells size), refl);
      keeps = keeps (subst IsSome (sym (tells_on same d tells)) refl);
      performed = refl;
    };
    service = refl;
    is_open = made.is_open;
    no_fault = made.no_fault ∙ ap (λ x. x.faults) same ∙ fresh;
  }

  pub begun_old : (host left : Hosted) (journal : SeenJournal D) → LookedAt → faults disk ≡ 0 → KeepsWhatStood told mid journal → WhereTold (told mid) (λ bytes. Reopens bytes journal.gate host left) → journal.is_closed ≡ false
      → faults journal.disk ≡ faults mid → left.service ≡ host.service → BeginsBy told faults disk host journal left
  begun_old host left journal same fresh keeps read going none service = record {
    resumes = λ d tells.
        let now = tells_on same d tells in
        let r = subst (λ t. WhereTold t (λ bytes. Reopens bytes journal.gate host left)) now read in
        record {
          payloads = r.payloads;
          are = inr r.stands;
          keeps = keeps r.payloads (subst (λ t. TellsPayloads t r.payloads) (sym now) r.stands);
          performed = r.performed;
        };
    service = service;
    is_open = going;
    no_fault = none ∙ ap (λ x. x.faults) same ∙ fresh;
  }

  pub len_failed : faults disk ≡ 0 → faults mid ≡ risen (faults disk) → FailsToBegin told faults disk stops.DiskFault mid
  len_failed fresh rose = record { cause = λ d tells. tt; on_empty = λ d tells none. refl; is_opening = tt; faults_are = rose ∙ ap risen fresh }

  pub create_failed : (stop : JournalStop) (left : D) → LookedAt → faults disk ≡ 0 → stop ≡ stops.DiskFault → faults left ≡ risen (faults mid) → FailsToBegin told faults disk stop left
  create_failed stop left same fresh is rose = subst (λ s. FailsToBegin told faults disk s left) (sym is) (record {
    cause = λ d tells. tt;
    on_empty = λ d tells none. refl;
    is_opening = tt;
    faults_are = rose ∙ ap (λ x. risen x.faults) same ∙ ap risen fresh;
  })

  opening : (before after : ℕ) (stop : JournalStop) → before ≡ 0 → StopsOpening before stop after → IsOpeningStop stop × (after ≡ faults_by stop)
  opening before after stops.DiskFault none s = (tt, s ∙ ap risen none)
  opening before after stops.NotAJournal none s = (tt, s ∙ none)
  opening before after (stops.BadRecord number) none s = (tt, s ∙ none)
  opening before after stops.Memory none s = (tt, s ∙ none)
  opening before after stops.Closed none s = absurd s
  opening before after stops.Full none s = absurd s

  pub open_failed : (size : ℕ) (stop : JournalStop) (left : D) → LookedAt → IsLength size (told disk) → size ≢ 0 → faults disk ≡ 0 → WhereTold (told mid) (λ bytes. StopsAs bytes stop) → StopsOpening (faults mid) stop (faults left)
      → FailsToBegin told faults disk stop left
  open_failed size stop left same long some fresh read met =
      let o = opening (faults mid) (faults left) stop (ap (λ x. x.faults) same ∙ fresh) met in
      record {
        cause = λ d tells. subst (λ t. WhereTold t (λ bytes. StopsAs bytes stop)) (tells_on same d tells) read;
        on_empty = λ d tells none. absurd (some (subst (IsLength size) tells long ∙ ap length none));
        is_opening = o.0;
        faults_are = o.1;
      }
