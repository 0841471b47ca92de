-- Each moment of an append, whole or cut short: a crash leaves the payloads before it, or these and the new one.
use Rattle.std.proofs.Common.{◌≡◌, inl, inr, ℕ, ◌+◌, List, [], ◌∷◌, ◌++◌, length, refl, sym, ◌∙◌, ap, subst, arith, append_assoc, length-append}
use Rattle.rb_disk.specs.Images.{Call, wrote, synced, IsImage, IsImageSince, Torn, read_after, put, DiskRecord, further}
use Rattle.rb_journal.specs.Form.{IsPayload, record_of, text_of, before_gate, StandsFor}
use Rattle.rb_journal.specs.Appends.{append_calls, IsCutShort, at_record, at_first_sync, at_gate, at_second_sync, IsBeforeOrAfter, Holds, LeavesOnly}
use Rattle.rb_journal.proofs.Moments.{since_now, since_call, since_tear, since_look}
use Rattle.rb_journal.proofs.Crash.{stands_at, torn_behind, left_behind, written_behind, stands_open, torn_gate, written_gate, before_gate-push}

module _ (disk : DiskRecord) (gate : ℕ) (payloads : List (List ℕ)) (payload : List ℕ) (holds : Holds disk gate payloads) (is_payload : IsPayload payload) where
  abbrev P : List ℕ → Type 0
  P = IsBeforeOrAfter payloads payload

  abbrev Since : List Call → Type 0
  Since calls = (image : List ℕ) → IsImageSince (length disk.calls) disk.first calls image → P image

  abbrev left : List ℕ
  left = left_behind payloads payload holds.stands.fit is_payload gate holds.gate_is holds.stands.gate holds.stands.behind

  abbrev calls1 : List Call
  calls1 = wrote (gate + 1) (text_of payload) ∷ disk.calls

  abbrev calls3 : List Call
  calls3 = wrote gate (1 ∷ []) ∷ synced ∷ calls1

  start : Since disk.calls
  start image h = inl (subst (λ (b : List ℕ). StandsFor b payloads) (sym (holds.kept image (since_now (length disk.calls) disk.first disk.calls image (omega arith) h))) holds.stands)

  torn1 : (old image : List ℕ) → IsImage disk.first disk.calls old → Torn (gate + 1) (length (text_of payload)) old image → P image
  torn1 old image was torn =
      inl (torn_behind payloads payload holds.stands.fit is_payload gate holds.gate_is (length (text_of payload)) holds.stands.gate holds.stands.behind image holds.stands.is_closed
      (subst (λ (o : List ℕ). Torn (gate + 1) (length (text_of payload)) o image) (holds.kept old was ∙ holds.stands.is) torn))

  here1 : (image : List ℕ) → IsImage disk.first calls1 image → P image
  here1 image now = torn1 now.0 image now.1 now.2

  since1 : Since calls1
  since1 = since_call (length disk.calls) disk.first (wrote (gate + 1) (text_of payload)) disk.calls P start here1

  shown1 : read_after disk.first calls1 ≡ before_gate payloads ++ holds.stands.gate ∷ (text_of payload ++ left)
  shown1 = ap (λ (l : List ℕ). put (gate + 1) (text_of payload) l) holds.stands.is ∙ written_behind payloads payload holds.stands.fit is_payload gate holds.gate_is holds.stands.gate holds.stands.behind

  here2 : (image : List ℕ) → IsImage disk.first (synced ∷ calls1) image → P image
  here2 image now = inl (stands_at payloads holds.stands.gate (text_of payload ++ left) image holds.stands.fit holds.stands.is_closed (now ∙ shown1))

  since2 : Since (synced ∷ calls1)
  since2 = since_call (length disk.calls) disk.first synced calls1 P since1 here2

  torn3 : (old image : List ℕ) → IsImage disk.first (synced ∷ calls1) old → Torn gate 1 old image → P image
  torn3 old image was torn =
      torn_gate payloads payload holds.stands.fit is_payload gate holds.gate_is holds.stands.gate left image (subst (λ (o : List ℕ). Torn gate 1 o image) (was ∙ shown1) torn)

  here3 : (image : List ℕ) → IsImage disk.first calls3 image → P image
  here3 image now = torn3 now.0 image now.1 now.2

  since3 : Since calls3
  since3 = since_call (length disk.calls) disk.first (wrote gate (1 ∷ [])) (synced ∷ calls1) P since2 here3

  shown3 : read_after disk.first calls3 ≡ before_gate payloads ++ 1 ∷ (text_of payload ++ left)
  shown3 = ap (λ (l : List ℕ). put gate (1 ∷ []) l) shown1 ∙ written_gate payloads payload holds.stands.fit is_payload gate holds.gate_is holds.stands.gate (text_of payload ++ left)

  stands4 : (bytes : List ℕ) → bytes ≡ read_after disk.first calls3 → StandsFor bytes (payloads ++ payload ∷ [])
  stands4 bytes is = stands_open payloads payload holds.stands.fit is_payload gate holds.gate_is left bytes (is ∙ shown3)

  since4 : Since (synced ∷ calls3)
  since4 = since_call (length disk.calls) disk.first synced calls3 P since3 (λ image now. inr (stands4 image now))

  pub append_moments : LeavesOnly disk (further (append_calls gate (text_of payload)) disk) P
  append_moments = record { calls = append_calls gate (text_of payload); is = refl; each = since4 }

  pub append_holds : Holds (further (append_calls gate (text_of payload)) disk) (gate + 5 + length payload) (payloads ++ payload ∷ [])
  append_holds = record {
    stands = stands4 (read_after disk.first calls3) refl;
    gate_is = omega (arith, holds.gate_is, ap length (before_gate-push payloads payload), length-append (before_gate payloads) (1 ∷ record_of payload));
    kept = λ image now. now;
  }

  cut_each : (calls : List Call) → IsCutShort gate (text_of payload) calls → Since (calls ++ disk.calls)
  cut_each calls (at_record trace tear) = since_tear (length disk.calls) (gate + 1) (length (text_of payload)) disk.first trace disk.calls P tear start torn1
  cut_each calls (at_first_sync trace look) = λ image h.
      since_look (length disk.calls) disk.first trace calls1 P look since1 here1 image
      (subst (λ (cs : List Call). IsImageSince (length disk.calls) disk.first cs image) (append_assoc trace (wrote (gate + 1) (text_of payload) ∷ []) disk.calls) h)
  cut_each calls (at_gate trace tear) = λ image h.
      since_tear (length disk.calls) gate 1 disk.first trace (synced ∷ calls1) P tear since2 torn3 image
      (subst (λ (cs : List Call). IsImageSince (length disk.calls) disk.first cs image) (append_assoc trace (synced ∷ wrote (gate + 1) (text_of payload) ∷ []) disk.calls) h)
  cut_each calls (at_second_sync trace look) = λ image h.
      since_look (length disk.calls) disk.first trace calls3 P look since3 here3 image
      (subst (λ (cs : List Call). IsImageSince (length disk.calls) disk.first cs image) (append_assoc trace (wrote gate (1 ∷ []) ∷ synced ∷ wrote (gate + 1) (text_of payload) ∷ []) disk.calls) h)

  pub cut_moments : (calls : List Call) → IsCutShort gate (text_of payload) calls → LeavesOnly disk (further calls disk) P
  cut_moments calls cut = record { calls = calls; is = refl; each = cut_each calls cut }
