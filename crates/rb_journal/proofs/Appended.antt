-- What an append makes of a journal, from what it makes of the disk.
use Rattle.std.proofs.Common.{◌≡◌, ℕ, ◌+◌, Bool, false, List, [], ◌∷◌, ◌++◌, length, Option, Some, refl, sym, ◌∙◌, ap, subst, arith, inl}
use Rattle.rb_base.specs.Devices.{Device, device, failed}
use Rattle.rb_disk.specs.Images.{Call, DiskRecord, further, told_further, with_calls}
use Rattle.rb_journal.specs.Form.{IsPayload, text_of, StandsFor}
use Rattle.rb_journal.specs.Appends.{append_calls, IsCutShort, IsBeforeOrAfter, Holds, LeavesOnly}
use Rattle.rb_journal.specs.Journals.{SeenJournal, Keeps, CrashesOnly}
use Rattle.rb_journal.proofs.Moments.{since_now}
use Rattle.rb_journal.proofs.AppendMoments.{append_moments, append_holds, cut_moments}

-- two disks that tell
both : (a b : Option DiskRecord) (x y : DiskRecord) (P : List ℕ → Type 0) → a ≡ Some x → b ≡ Some y → LeavesOnly x y P → CrashesOnly a b P
both a b x y P p q h = subst (λ (t : Option DiskRecord). CrashesOnly t b P) (sym p) (subst (λ (t : Option DiskRecord). CrashesOnly (Some x) t P) (sym q) h)

module _ {D : Type 0} (told : D → Option DiskRecord) (faults : D → ℕ) where
  -- nothing was asked of the disk
  pub stays : (old : SeenJournal D) (payloads : List (List ℕ)) (payload : List ℕ) → Keeps told old payloads → CrashesOnly (told old.disk) (told old.disk) (IsBeforeOrAfter payloads payload)
  stays old payloads payload k =
      let d = k.record_is in
      let here : LeavesOnly d d (IsBeforeOrAfter payloads payload) = record {
        calls = [];
        is = refl;
        each = λ image h. inl (subst (λ (b : List ℕ). StandsFor b payloads) (sym (k.holds.kept image (since_now (length d.calls) d.first d.calls image (omega arith) h))) k.holds.stands);
      } in
      subst (λ (t : Option DiskRecord). CrashesOnly t t (IsBeforeOrAfter payloads payload)) (sym k.tells) here

  -- what is known of the fields of a journal that keeps these payloads
  pub record KeepsSo (disk : D) (gate : ℕ) (payloads : List (List ℕ)) (old : SeenJournal D) : Type 0 where
    pub record_is : DiskRecord
    pub tells : told disk ≡ Some record_is
    pub same : told old.disk ≡ told disk
    pub holds : Holds record_is gate payloads

  pub keeps_so : (disk : D) (gate : ℕ) (closed : Bool) (old : SeenJournal D) (payloads : List (List ℕ)) → record { disk = disk; gate = gate; is_closed = closed } ≡ old → Keeps told old payloads → KeepsSo disk gate payloads old
  keeps_so disk gate closed old payloads seen k =
      let same : told old.disk ≡ told disk = sym (ap (λ (j : SeenJournal D). told j.disk) seen) in
      record {
        record_is = k.record_is;
        tells = sym same ∙ k.tells;
        same = same;
        holds = subst (λ (n : ℕ). Holds k.record_is n payloads) (sym (ap (λ (j : SeenJournal D). j.gate) seen)) k.holds;
      }

  pub kept : (disk new : D) (gate : ℕ) (closed : Bool) (old : SeenJournal D) (text payload : List ℕ) (payloads : List (List ℕ))
      → record { disk = disk; gate = gate; is_closed = closed } ≡ old → closed ≡ false → IsPayload payload → text ≡ text_of payload
      → device told faults new ≡ with_calls (append_calls gate text) (device told faults disk)
      → Keeps told old payloads → Keeps told (record { disk = new; gate = gate + (5 + length payload); is_closed = closed }) (payloads ++ payload ∷ [])
  kept disk new gate closed old text payload payloads seen is_open is_payload text_is made k =
      let s = keeps_so disk gate closed old payloads seen k in
      let d = s.record_is in
      let calls = append_calls gate (text_of payload) in
      let went : told new ≡ Some (further calls d) =
      ap (λ (x : Device DiskRecord). x.told) made ∙ ap (λ (t : List ℕ). told_further (append_calls gate t) (told disk)) text_is ∙ ap (λ (t : Option DiskRecord). told_further calls t) s.tells in
      record {
        record_is = further calls d;
        tells = went;
        is_open = is_open;
        holds = subst (λ (n : ℕ). Holds (further calls d) n (payloads ++ payload ∷ [])) (let e : gate + 5 + length payload ≡ gate + (5 + length payload) = omega arith in e) (append_holds d gate payloads payload s.holds is_payload);
      }

  pub moments : (disk new : D) (gate : ℕ) (closed : Bool) (old : SeenJournal D) (text payload : List ℕ) (payloads : List (List ℕ))
      → record { disk = disk; gate = gate; is_closed = closed } ≡ old → IsPayload payload → text ≡ text_of payload
      → device told faults new ≡ with_calls (append_calls gate text) (device told faults disk)
      → Keeps told old payloads → CrashesOnly (told old.disk) (told new) (IsBeforeOrAfter payloads payload)
  moments disk new gate closed old text payload payloads seen is_payload text_is made k =
      let s = keeps_so disk gate closed old payloads seen k in
      let d = s.record_is in
      let calls = append_calls gate (text_of payload) in
      let went : told new ≡ Some (further calls d) =
      ap (λ (x : Device DiskRecord). x.told) made ∙ ap (λ (t : List ℕ). told_further (append_calls gate t) (told disk)) text_is ∙ ap (λ (t : Option DiskRecord). told_further calls t) s.tells in
      both (told old.disk) (told new) d (further calls d) (IsBeforeOrAfter payloads payload) (s.same ∙ s.tells) went (append_moments d gate payloads payload s.holds is_payload)

  pub cut : (disk new : D) (gate : ℕ) (closed : Bool) (old : SeenJournal D) (text payload : List ℕ) (payloads : List (List ℕ))
      → record { disk = disk; gate = gate; is_closed = closed } ≡ old → IsPayload payload → text ≡ text_of payload
      → (calls : List Call) × IsCutShort gate text calls × (device told faults new ≡ failed (with_calls calls (device told faults disk)))
      → Keeps told old payloads → CrashesOnly (told old.disk) (told new) (IsBeforeOrAfter payloads payload)
  cut disk new gate closed old text payload payloads seen is_payload text_is made k =
      let s = keeps_so disk gate closed old payloads seen k in
      let d = s.record_is in
      let calls = made.0 in
      let went : told new ≡ Some (further calls d) =
      ap (λ (x : Device DiskRecord). x.told) made.2 ∙ ap (λ (t : Option DiskRecord). told_further calls t) s.tells in
      let short : IsCutShort gate (text_of payload) calls = subst (λ (t : List ℕ). IsCutShort gate t calls) text_is made.1 in
      both (told old.disk) (told new) d (further calls d) (IsBeforeOrAfter payloads payload) (s.same ∙ s.tells) went (cut_moments d gate payloads payload s.holds is_payload calls short)
