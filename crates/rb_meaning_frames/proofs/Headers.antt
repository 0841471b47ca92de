-- Headers, and the frames that they begin.
use Rattle.std.proofs.Common.{◌≡◌, ℕ, zero, suc, ◌+◌, ◌<◌, ◌≤◌, ◌^◌, Bool, true, List, [], ◌∷◌, ◌++◌, length, take, drop, get_or, refl, ap, sym, ◌∙◌, arith, inl, inr}
use Rattle.std.specs.Int.{w64, from_be_bytes, to_be_bytes}
use Rattle.std.proofs.lemmas.Bool.{cases_lt, eqb-true}
use Rattle.std.proofs.lemmas.List.{length-take, get_or-drop, get_or-take, get_or_past}
use Rattle.std.proofs.lemmas.Nat.{be_bytes_8, from_be_bytes-to_be_bytes_8}
use Rattle.rb_meaning_bytes.specs.formats.Fields.{IsBytes}
use Rattle.rb_meaning.specs.Replies.{header_length, announced}
use Rattle.rb_meaning_frames.specs.Frames.{header_bytes, request_kind, is_request, may_stand, IsRightBefore}

pub IsBytes-drop : (n : ℕ) (bytes : List ℕ) → IsBytes bytes → IsBytes (drop n bytes)
IsBytes-drop n bytes h i = rw get_or-drop (h (n + i))

pub IsBytes-take : (n : ℕ) (bytes : List ℕ) → IsBytes bytes → IsBytes (take n bytes)
IsBytes-take n bytes h i =
    elim (cases_lt i n) [
      | inl lt ↦ rw (get_or-take n bytes i 0 lt) (h i)
      | inr le ↦ rw (get_or_past (take n bytes) i 0 (omega (arith, length-take n bytes))) (omega arith)
    ]

-- ---- what a header is

pub length-header : (kind size : ℕ) → length (header_bytes kind size) ≡ 11
unfolding header_bytes
length-header kind size = refl

pub announced-header : (kind size : ℕ) (bytes : List ℕ) → size < 2 ^ 64 → announced (header_bytes kind size ++ bytes) ≡ size
unfolding header_bytes
announced-header kind size bytes small = from_be_bytes-to_be_bytes_8 size small

pub request_stands : (size : ℕ) (bytes : List ℕ) (i : ℕ) → may_stand is_request i (get_or (header_bytes request_kind size ++ bytes) i 0) ≡ true
unfolding header_bytes
request_stands size bytes zero = refl
request_stands size bytes (suc zero) = refl
request_stands size bytes (suc (suc zero)) = refl
request_stands size bytes (suc (suc (suc i))) = refl

-- a header with these three bytes and this length
same_header : (a b kind size : ℕ) (tail : List ℕ) → a ≡ 0x52 → b ≡ 0x42 → to_be_bytes w64 size ≡ tail → a ∷ b ∷ kind ∷ tail ≡ header_bytes kind size
unfolding header_bytes
same_header a b kind size tail p q r =
    ap (λ x. x ∷ b ∷ kind ∷ tail) p ∙ ap (λ x. 0x52 ∷ x ∷ kind ∷ tail) q ∙ ap (λ x. 0x52 ∷ 0x42 ∷ kind ∷ x) (sym r)

pub spelled : (is_kind : ℕ → Bool) (bytes : List ℕ) → IsBytes bytes → header_length ≤ length bytes → IsRightBefore is_kind 3 bytes
    → take header_length bytes ≡ header_bytes (get_or bytes 2 0) (announced bytes)
spelled is_kind [] b long right = absurd (omega arith)
spelled is_kind (x ∷ []) b long right = absurd (omega arith)
spelled is_kind (x ∷ y ∷ []) b long right = absurd (omega arith)
spelled is_kind (x ∷ y ∷ z ∷ tail) b long right =
    let first = right 0 (omega arith) in
    let second = right 1 (omega arith) in
    same_header x y z (from_be_bytes w64 (take 8 tail)) (take 8 tail) (eqb-true x 0x52 first) (eqb-true y 0x42 second)
    (be_bytes_8 (take 8 tail) (from_be_bytes w64 (take 8 tail)) (omega (arith, length-take 8 tail)) (IsBytes-take 8 tail (IsBytes-drop 3 (x ∷ y ∷ z ∷ tail) b)) refl)
