-- Fronts of a stream as they are found.
use Rattle.std.proofs.Common.{◌≡◌, ◌⊎◌, ℕ, zero, suc, ◌+◌, ◌<◌, ◌≤◌, Bool, false, List, [], ◌∷◌, ◌++◌, length, take, drop, get_or, refl, ap, sym, ◌∙◌, arith, inl, inr, take_all}
use Rattle.std.proofs.lemmas.Bool.{cases_eq, eqb-true, eq-eqb, ne_eqb, le-leb, lt-leb, and_from, and_left, and_right, cases_lt}
use Rattle.rb_meaning_bytes.specs.formats.Fields.{IsBytes}
use Rattle.rb_meaning.specs.Answers.{longest_request}
use Rattle.rb_meaning.specs.Replies.{header_length, announced}
use Rattle.rb_meaning_frames.specs.Frames.{header_bytes, frame_bytes, request_kind, is_request, is_kind, may_stand, IsRightBefore, BreaksAt}
use Rattle.rb_meaning_frames.specs.Streams.{BreaksRequest, Waits}
use Rattle.rb_meaning_frames.specs.Laws.{HeadersAreSpelled, FramesAreWhole}
use Rattle.rb_session.specs.Fronts.{is_between, IsHeader, IsWhole}

-- the one kind between 1 and 1
one_kind : (kind : ℕ) → is_between request_kind request_kind kind ≡ is_request kind
one_kind kind =
    elim (cases_eq kind request_kind) [
      | inl same ↦ and_from _ _ (le-leb request_kind kind (omega arith)) (le-leb kind request_kind (omega arith)) ∙ sym (eq-eqb kind request_kind same)
      | inr other ↦ not_between kind other ∙ sym (ne_eqb kind request_kind other)
    ]
  where
    not_between : (kind : ℕ) → (kind ≡ request_kind → ⊥) → is_between request_kind request_kind kind ≡ false
    not_between kind other =
        elim (cases_lt kind request_kind) [
          | inl less ↦ and_left _ _ (lt-leb request_kind kind less)
          | inr le ↦ and_right _ _ (lt-leb kind request_kind (above le))
        ]
      where
        above : request_kind ≤ kind → request_kind < kind
        above le = elim (cases_lt request_kind kind) [ inl lt ↦ lt | inr ge ↦ absurd (other (omega arith)) ]

same_stand : (i byte : ℕ) → may_stand (is_between request_kind request_kind) i byte ≡ may_stand is_request i byte
same_stand zero byte = refl
same_stand (suc zero) byte = refl
same_stand (suc (suc zero)) byte = one_kind byte
same_stand (suc (suc (suc i))) byte = refl

right_request : (k : ℕ) (bytes : List ℕ) → IsRightBefore (is_between request_kind request_kind) k bytes → IsRightBefore is_request k bytes
right_request k bytes right i lt = sym (same_stand i (get_or bytes i 0)) ∙ right i lt

-- a byte that breaks the form is one of the first three
breaks_near : (is_kind : ℕ → Bool) (at : ℕ) (bytes : List ℕ) → BreaksAt is_kind at bytes → at ≤ 3
breaks_near is_kind zero bytes b = omega arith
breaks_near is_kind (suc zero) bytes b = omega arith
breaks_near is_kind (suc (suc zero)) bytes b = omega arith
breaks_near is_kind (suc (suc (suc at))) bytes b = let wrong = b.wrong in absurd (cc wrong)

pub broken_byte : (at : ℕ) (bytes : List ℕ) → BreaksAt (is_between request_kind request_kind) at bytes → (at ≤ 3) × BreaksRequest at bytes
broken_byte at bytes b = (
  breaks_near (is_between request_kind request_kind) at bytes b,
  inl (record {
    within = b.within;
    wrong = sym (same_stand at (get_or bytes at 0)) ∙ b.wrong;
    before = right_request at bytes b.before;
  }),
)

right_less : (is_kind : ℕ → Bool) (k n : ℕ) (bytes : List ℕ) → k ≤ n → IsRightBefore is_kind n bytes → IsRightBefore is_kind k bytes
right_less is_kind k n bytes le right i lt = right i (omega arith)

pub broken_length : (bytes : List ℕ) → IsRightBefore (is_between request_kind request_kind) (length bytes) bytes → header_length ≤ length bytes → longest_request < announced bytes
    → (3 ≤ 3) × BreaksRequest 3 bytes
broken_length bytes right there longer =
    (omega arith, inr (record { at = refl; there = there; right = right_less is_request 3 (length bytes) bytes (omega arith) (right_request (length bytes) bytes right); longer = longer }))

pub partial : (bytes : List ℕ) → IsRightBefore (is_between request_kind request_kind) (length bytes) bytes → (header_length ≤ length bytes → announced bytes ≤ longest_request)
    → ((length bytes < header_length) ⊎ (length bytes < header_length + announced bytes)) → Waits bytes
partial [] right fits short = inl refl
partial (x ∷ xs) right fits short =
    inr (record { begun = omega arith; right = right_request (length (x ∷ xs)) (x ∷ xs) right; fits = fits; short = short })

pub whole_frame : FramesAreWhole → (bytes : List ℕ) → IsBytes bytes → IsRightBefore (is_between request_kind request_kind) (length bytes) bytes
    → announced bytes ≤ longest_request → header_length + announced bytes ≤ length bytes → IsWhole bytes (announced bytes)
whole_frame law bytes b right fits long =
    let three = right_less is_request 3 (length bytes) bytes (omega arith) (right_request (length bytes) bytes right) in
    let kind : get_or bytes 2 0 ≡ request_kind = eqb-true (get_or bytes 2 0) request_kind (three 2 (omega arith)) in
    let size = announced bytes in
    record {
      request = fits;
      there = long;
      is = law is_request bytes b long three ∙ ap (λ k. frame_bytes k (take size (drop header_length bytes)) ++ drop (header_length + size) bytes) kind;
    }

-- a header of eleven bytes
pub whole_header : HeadersAreSpelled → (header : List ℕ) (size : ℕ) → IsBytes header → length header ≡ header_length → IsRightBefore is_kind (length header) header
    → size ≡ announced header → IsHeader header (get_or header 2 0) size
whole_header law header size b long right same = record {
  is = sym (take_all header_length header (omega arith))
      ∙ law is_kind header b (omega arith) (right_less is_kind 3 (length header) header (omega arith) right)
      ∙ ap (header_bytes (get_or header 2 0)) (sym same);
  kind_is = right 2 (omega arith);
}
