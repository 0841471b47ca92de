-- What stands at the front of a list of bytes: a whole frame, a part of one, or what breaks its form.
use Rattle.std.proofs.Common.{◌≡◌, ◌⊎◌, ℕ, zero, suc, ◌+◌, ◌<◌, ◌≤◌, Bool, true, List, [], ◌∷◌, ◌++◌, length, take, drop, get_or, refl, ap, sym, ◌∙◌, subst, arith, append_assoc, inl, inr, drop-drop}
use Rattle.std.proofs.lemmas.Bool.{cases_lt, cases_Bool, eqb-true}
use Rattle.std.proofs.lemmas.List.{take-append-drop, length-take, length-drop}
use Rattle.rb_meaning_bytes.specs.formats.Fields.{IsBytes}
use Rattle.rb_meaning.specs.Answers.{longest_request}
use Rattle.rb_meaning.specs.Replies.{header_length, announced}
use Rattle.rb_meaning_frames.specs.Frames.{header_bytes, frame_bytes, request_kind, is_request, may_stand, IsRightBefore, BreaksAt}
use Rattle.rb_meaning_frames.specs.Streams.{BeginsWhole, Rest, Empty, Cut, Broken, IsRest}
use Rattle.rb_meaning_frames.proofs.Headers.{spelled}

-- a frame whose payload is there
pub whole : (is_kind : ℕ → Bool) (bytes : List ℕ) → IsBytes bytes → header_length + announced bytes ≤ length bytes → IsRightBefore is_kind 3 bytes
    → bytes ≡ frame_bytes (get_or bytes 2 0) (take (announced bytes) (drop header_length bytes)) ++ drop (header_length + announced bytes) bytes
whole is_kind bytes b long right =
    let kind = get_or bytes 2 0 in
    let size = announced bytes in
    let payload = take size (drop header_length bytes) in
    let header : take header_length bytes ≡ header_bytes kind size = spelled is_kind bytes b (omega arith) right in
    let long_enough : length payload ≡ size = omega (arith, length-take size (drop header_length bytes), length-drop header_length bytes) in
    let tail : drop header_length bytes ≡ payload ++ drop (header_length + size) bytes =
    sym (take-append-drop size (drop header_length bytes)) ∙ ap (λ x. payload ++ x) (drop-drop size header_length bytes) in
    sym (take-append-drop header_length bytes)
    ∙ ap (λ x. x ++ drop header_length bytes) header
    ∙ ap (λ x. header_bytes kind size ++ x) tail
    ∙ sym (append_assoc (header_bytes kind size) payload (drop (header_length + size) bytes))
    ∙ ap (λ n. (header_bytes kind n ++ payload) ++ drop (header_length + size) bytes) (sym long_enough)

-- so many bytes more are right
right_more : (is_kind : ℕ → Bool) (k : ℕ) (bytes : List ℕ) → IsRightBefore is_kind k bytes → may_stand is_kind k (get_or bytes k 0) ≡ true → IsRightBefore is_kind (suc k) bytes
right_more is_kind k bytes right is i lt =
    elim (cases_lt i k) [
      | inl less ↦ right i less
      | inr more ↦ let same : k ≡ i = omega arith in subst (λ j. may_stand is_kind j (get_or bytes j 0) ≡ true) same is
    ]

-- the first wrong byte among so many, or none
pub scan : (is_kind : ℕ → Bool) (bytes : List ℕ) (k : ℕ) → k ≤ length bytes → ((at : ℕ) × BreaksAt is_kind at bytes) ⊎ IsRightBefore is_kind k bytes
scan is_kind bytes zero le = inr (λ i lt. absurd (omega arith))
scan is_kind bytes (suc k) le =
    elim (scan is_kind bytes k (omega arith)) [
      | inl found ↦ inl found
      | inr right ↦
          elim (cases_Bool (may_stand is_kind k (get_or bytes k 0))) [
            | inl is ↦ inr (right_more is_kind k bytes right is)
            | inr is ↦ inl (k, record { within = omega arith; wrong = is; before = right })
          ]
    ]

pub right_less : (is_kind : ℕ → Bool) (k n : ℕ) (bytes : List ℕ) → k ≤ n → IsRightBefore is_kind n bytes → IsRightBefore is_kind k bytes
right_less is_kind k n bytes le right i lt = right i (omega arith)

-- Whatever stands at the front, it is one of these.
abbrev pub Front : List ℕ → Type 0
Front bytes = BeginsWhole bytes ⊎ ((kind : Rest) × IsRest bytes kind)

right_front : (bytes : List ℕ) → IsBytes bytes → IsRightBefore is_request (length bytes) bytes → 0 < length bytes → Front bytes
right_front bytes b right begun =
    elim (cases_lt (length bytes) header_length) [
      | inl less ↦ inr (Cut, record { begun = begun; right = right; fits = λ le. absurd (omega arith); short = inl less })
      | inr there ↦
          elim (cases_lt longest_request (announced bytes)) [
            | inl longer ↦ inr (Broken 3, inr (record { at = refl; there = there; right = right_less is_request 3 (length bytes) bytes (omega arith) right; longer = longer }))
            | inr fits ↦
                elim (cases_lt (length bytes) (header_length + announced bytes)) [
                  | inl less ↦ inr (Cut, record { begun = begun; right = right; fits = λ le. fits; short = inr less })
                  | inr long ↦
                      let three = right_less is_request 3 (length bytes) bytes (omega arith) right in
                      let kind : get_or bytes 2 0 ≡ request_kind = eqb-true (get_or bytes 2 0) request_kind (three 2 (omega arith)) in
                      let payload = take (announced bytes) (drop header_length bytes) in
                      inl (record {
                        payload = payload;
                        more = drop (header_length + announced bytes) bytes;
                        request = omega (arith, length-take (announced bytes) (drop header_length bytes));
                        is = whole is_request bytes b long three ∙ ap (λ k. frame_bytes k payload ++ drop (header_length + announced bytes) bytes) kind;
                      })
                ]
          ]
    ]

pub front_of : (bytes : List ℕ) → IsBytes bytes → Front bytes
front_of [] b = inr (Empty, refl)
front_of (x ∷ xs) b =
    elim (scan is_request (x ∷ xs) (length (x ∷ xs)) (omega arith)) [
      | inl found ↦ inr (Broken found.0, inl found.1)
      | inr right ↦ right_front (x ∷ xs) b right (omega arith)
    ]
