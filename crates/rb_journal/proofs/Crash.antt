-- What a crash leaves at each moment of an append.
use Rattle.std.proofs.Common.{◌≡◌, ◌≢◌, inl, inr, ℕ, ◌+◌, ◌-◌, ◌≤◌, min, List, [], ◌∷◌, ◌++◌, length, get_or, take, drop, sym, ◌∙◌, ap, arith, append_assoc, length-append, take-append-drop}
use Rattle.std.proofs.lemmas.Bool.{cases_eq}
use Rattle.std.proofs.lemmas.List.{take_at, drop_at, drop_more, append-nil}
use Rattle.rb_disk.specs.Images.{Torn, put}
use Rattle.rb_journal.specs.Form.{head, IsPayload, ArePayloads, record_of, text_of, opened, before_gate, StandsFor}
use Rattle.rb_journal.specs.Appends.{IsBeforeOrAfter}

-- where the offset isn't past the end
pub put_within : (at : ℕ) (bytes old : List ℕ) → at ≤ length old → put at bytes old ≡ take at old ++ bytes ++ drop (at + length bytes) old
put_within at [] old le = sym (ap (λ (l : List ℕ). l ++ drop (at + 0) old) (append-nil (take at old)) ∙ ap (λ (n : ℕ). take at old ++ drop n old) (let e : at + 0 ≡ at = omega arith in e) ∙ take-append-drop at old)
put_within at (b ∷ bytes) old le =
    let none : at - length old ≡ 0 = omega arith in
    rw none (ap (λ (l : List ℕ). l ++ (b ∷ bytes) ++ drop (at + length (b ∷ bytes)) old) (append-nil (take at old)))

pub opened-push : (payloads : List (List ℕ)) (payload : List ℕ) → opened (payloads ++ payload ∷ []) ≡ opened payloads ++ 1 ∷ record_of payload
opened-push [] payload = ap (λ (l : List ℕ). 1 ∷ l) (append-nil (record_of payload))
opened-push (p ∷ payloads) payload =
    ap (λ (l : List ℕ). 1 ∷ l) (ap (λ (l : List ℕ). record_of p ++ l) (opened-push payloads payload) ∙ sym (append_assoc (record_of p) (opened payloads) (1 ∷ record_of payload)))

pub before_gate-push : (payloads : List (List ℕ)) (payload : List ℕ) → before_gate (payloads ++ payload ∷ []) ≡ before_gate payloads ++ 1 ∷ record_of payload
before_gate-push payloads payload = ap (λ (l : List ℕ). head ++ l) (opened-push payloads payload)

pub ArePayloads-push : (payloads : List (List ℕ)) (payload : List ℕ) → ArePayloads payloads → IsPayload payload → ArePayloads (payloads ++ payload ∷ [])
ArePayloads-push [] payload all is = (is, tt)
ArePayloads-push (p ∷ payloads) payload all is = (all.0, ArePayloads-push payloads payload all.1 is)

-- a closed gate ends the journal, whatever stands behind it
pub stands_at : (payloads : List (List ℕ)) (gate : ℕ) (behind bytes : List ℕ) → ArePayloads payloads → gate ≢ 1 → bytes ≡ before_gate payloads ++ gate ∷ behind → StandsFor bytes payloads
stands_at payloads gate behind bytes all shut is = record { fit = all; gate = gate; behind = behind; is_closed = shut; is = is }

module _ (payloads : List (List ℕ)) (payload : List ℕ) (all : ArePayloads payloads) (is_payload : IsPayload payload) (gate : ℕ) (gate_is : gate ≡ length (before_gate payloads)) where
  front_size : (g : ℕ) → length (before_gate payloads ++ g ∷ []) ≡ gate + 1
  front_size g = omega (arith, gate_is, length-append (before_gate payloads) (g ∷ []))

  size_behind : (g : ℕ) (behind : List ℕ) → length (before_gate payloads ++ g ∷ behind) ≡ gate + 1 + length behind
  size_behind g behind = omega (arith, gate_is, length-append (before_gate payloads) (g ∷ behind))

  regroup : (g : ℕ) (behind : List ℕ) → (before_gate payloads ++ g ∷ []) ++ behind ≡ before_gate payloads ++ g ∷ behind
  regroup g behind = append_assoc (before_gate payloads) (g ∷ []) behind

  -- the gate stands as it was in each outcome of the first write
  pub torn_behind : (n g : ℕ) (behind image : List ℕ) → g ≢ 1 → Torn (gate + 1) n (before_gate payloads ++ g ∷ behind) image → StandsFor image payloads
  torn_behind n g behind image shut torn =
      let old = before_gate payloads ++ g ∷ behind in
      let within : min (gate + 1) (length old) ≡ gate + 1 = omega (arith, size_behind g behind) in
      let kept : take (gate + 1) image ≡ before_gate payloads ++ g ∷ [] =
      sym (ap (λ (k : ℕ). take k image) within) ∙ torn.before ∙ ap (λ (l : List ℕ). take (gate + 1) l) (sym (regroup g behind)) ∙ take_at (before_gate payloads ++ g ∷ []) behind (gate + 1) (front_size g) in
      stands_at payloads g (drop (gate + 1) image) image all shut
      (sym (take-append-drop (gate + 1) image) ∙ ap (λ (l : List ℕ). l ++ drop (gate + 1) image) kept ∙ regroup g (drop (gate + 1) image))

  -- what is left behind what the first write wrote
  abbrev pub left_behind : ℕ → List ℕ → List ℕ
  left_behind g behind = drop (gate + 1 + length (text_of payload)) (before_gate payloads ++ g ∷ behind)

  pub written_behind : (g : ℕ) (behind : List ℕ) → put (gate + 1) (text_of payload) (before_gate payloads ++ g ∷ behind) ≡ before_gate payloads ++ g ∷ (text_of payload ++ left_behind g behind)
  written_behind g behind =
      let old = before_gate payloads ++ g ∷ behind in
      put_within (gate + 1) (text_of payload) old (omega (arith, size_behind g behind))
      ∙ ap (λ (l : List ℕ). l ++ text_of payload ++ left_behind g behind) (ap (λ (l : List ℕ). take (gate + 1) l) (sym (regroup g behind)) ∙ take_at (before_gate payloads ++ g ∷ []) behind (gate + 1) (front_size g))
      ∙ append_assoc (before_gate payloads ++ g ∷ []) (text_of payload) (left_behind g behind)
      ∙ regroup g (text_of payload ++ left_behind g behind)

  -- with its own gate open the record counts
  open_is : (tail : List ℕ) → before_gate payloads ++ 1 ∷ (text_of payload ++ tail) ≡ before_gate (payloads ++ payload ∷ []) ++ 0 ∷ tail
  open_is tail =
      ap (λ (l : List ℕ). before_gate payloads ++ 1 ∷ l) (append_assoc (record_of payload) (0 ∷ []) tail)
      ∙ sym (append_assoc (before_gate payloads) (1 ∷ record_of payload) (0 ∷ tail))
      ∙ ap (λ (l : List ℕ). l ++ 0 ∷ tail) (sym (before_gate-push payloads payload))

  pub stands_open : (tail bytes : List ℕ) → bytes ≡ before_gate payloads ++ 1 ∷ (text_of payload ++ tail) → StandsFor bytes (payloads ++ payload ∷ [])
  stands_open tail bytes is = stands_at (payloads ++ payload ∷ []) 0 tail bytes (ArePayloads-push payloads payload all is_payload) (omega arith) (is ∙ open_is tail)

  -- the record stands whole in each outcome of the second write
  pub torn_gate : (g : ℕ) (tail image : List ℕ) → Torn gate 1 (before_gate payloads ++ g ∷ (text_of payload ++ tail)) image → IsBeforeOrAfter payloads payload image
  torn_gate g tail image torn =
      let behind = text_of payload ++ tail in
      let old = before_gate payloads ++ g ∷ behind in
      let x = get_or image gate 0 in
      let within : min gate (length old) ≡ gate = omega (arith, size_behind g behind) in
      let front : take gate image ≡ before_gate payloads =
      sym (ap (λ (k : ℕ). take k image) within) ∙ torn.before ∙ take_at (before_gate payloads) (g ∷ behind) gate (sym gate_is) in
      let back : drop (gate + 1) image ≡ behind =
      torn.behind ∙ ap (λ (l : List ℕ). drop (gate + 1) l) (sym (regroup g behind)) ∙ drop_at (before_gate payloads ++ g ∷ []) behind (gate + 1) (front_size g) in
      let rest : drop gate image ≡ x ∷ behind =
      drop_more image gate 0 (omega (arith, torn.no_shorter, size_behind g behind)) ∙ ap (λ (l : List ℕ). x ∷ l) back in
      let whole : image ≡ before_gate payloads ++ x ∷ behind =
      sym (take-append-drop gate image) ∙ ap (λ (l : List ℕ). l ++ drop gate image) front ∙ ap (λ (l : List ℕ). before_gate payloads ++ l) rest in
      elim (cases_eq x 1) [
        | inl is_open ↦ inr (stands_open tail image (whole ∙ ap (λ (n : ℕ). before_gate payloads ++ n ∷ behind) is_open))
        | inr shut ↦ inl (stands_at payloads x behind image all shut whole)
      ]

  pub written_gate : (g : ℕ) (behind : List ℕ) → put gate (1 ∷ []) (before_gate payloads ++ g ∷ behind) ≡ before_gate payloads ++ 1 ∷ behind
  written_gate g behind =
      let old = before_gate payloads ++ g ∷ behind in
      put_within gate (1 ∷ []) old (omega (arith, size_behind g behind))
      ∙ ap (λ (l : List ℕ). l ++ (1 ∷ []) ++ drop (gate + 1) old) (take_at (before_gate payloads) (g ∷ behind) gate (sym gate_is))
      ∙ ap (λ (l : List ℕ). before_gate payloads ++ (1 ∷ []) ++ l) (ap (λ (l : List ℕ). drop (gate + 1) l) (sym (regroup g behind)) ∙ drop_at (before_gate payloads ++ g ∷ []) behind (gate + 1) (front_size g))
      ∙ append_assoc (before_gate payloads) (1 ∷ []) behind
