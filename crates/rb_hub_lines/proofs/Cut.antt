-- Texts that are cut at a byte.
use Rattle.std.proofs.Common.{◌≡◌, ◌==◌, ◌<◌, ◌+◌, ℕ, zero, suc, true, false, List, [], ◌∷◌, ◌++◌, length, take, drop, get_or, refl, sym, ap, ◌∙◌, subst, arith}
use Rattle.std.proofs.lemmas.Bool.Decides.{nat_tests}
use Rattle.std.proofs.Math.Seq.{drop-cons, take-length}
use Rattle.std.proofs.lemmas.List.{take-append-drop}
use Rattle.std.specs.Prelude.{slice_index, if◌then◌else◌}
use Rattle.memchr.specs.Find.{is_byte, Passes}
use Rattle.rb_hub_lines.specs.Cuts.{IsCutAt, lacks}

-- a byte of another value in front
pub lacks-cons : (byte c : ℕ) (text : List ℕ) → (c ≡ byte → ⊥) → lacks byte text ≡ true → lacks byte (c ∷ text) ≡ true
lacks-cons byte c text other l = grind (arith, nat_tests)

pub lacks-head : (byte c : ℕ) (text : List ℕ) → lacks byte (c ∷ text) ≡ true → c ≡ byte → ⊥
lacks-head byte c text l e = grind (arith, nat_tests)

pub lacks-tail : (byte c : ℕ) (text : List ℕ) → lacks byte (c ∷ text) ≡ true → lacks byte text ≡ true
lacks-tail byte c text l = grind (arith, nat_tests)

pub lacks-append : (byte : ℕ) (a b : List ℕ) → lacks byte a ≡ true → lacks byte b ≡ true → lacks byte (a ++ b) ≡ true
lacks-append byte [] b la lb = lb
lacks-append byte (c ∷ a) b la lb = lacks-cons byte c (a ++ b) (lacks-head byte c a la) (lacks-append byte a b (lacks-tail byte c a la) lb)

-- what stands before the first byte of a value, and behind it, is one
pub cut_once : (byte : ℕ) (a b s t : List ℕ) → lacks byte a ≡ true → lacks byte b ≡ true → a ++ byte ∷ s ≡ b ++ byte ∷ t → (a ≡ b) × (s ≡ t)
cut_once byte [] [] s t la lb e = (refl, cc e)
cut_once byte [] (c ∷ b) s t la lb e = absurd (lacks-head byte c b lb (sym (cc e)))
cut_once byte (c ∷ a) [] s t la lb e = absurd (lacks-head byte c a la (cc e))
cut_once byte (c ∷ a) (d ∷ b) s t la lb e =
    let tails : a ++ byte ∷ s ≡ b ++ byte ∷ t = cc e in
    let heads : c ≡ d = cc e in
    let same = cut_once byte a b s t (lacks-tail byte c a la) (lacks-tail byte d b lb) tails in
    (cc (heads, same.0), same.1)

-- where no byte of a front passes
none_before : (byte k : ℕ) (text : List ℕ) → ((i : ℕ) → i < k → slice_index text i ≡ byte → ⊥) → lacks byte (take k text) ≡ true
none_before byte zero text h = refl
none_before byte (suc k) [] h = refl
none_before byte (suc k) (c ∷ text) h = lacks-cons byte c (take k text) (h 0 (omega arith)) (none_before byte k text (λ i l. h (suc i) (omega arith)))

passes : (byte : ℕ) (text : List ℕ) (k : ℕ) → slice_index text k ≡ byte → Passes (is_byte byte) text k
passes byte text k e = grind (arith, nat_tests)

is_passed : (byte : ℕ) (text : List ℕ) (k : ℕ) → Passes (is_byte byte) text k → slice_index text k ≡ byte
is_passed byte text k e = grind (arith, nat_tests)

-- a text, by a place in it
at_place : (text : List ℕ) (k : ℕ) → k < length text → text ≡ take k text ++ slice_index text k ∷ drop (k + 1) text
at_place text k within =
    let next : k + 1 ≡ suc k = omega arith in
    rw next (sym (take-append-drop k text) ∙ ap (λ rest. take k text ++ rest) (drop-cons text k 0 within))

pub cut_at : (byte : ℕ) (text : List ℕ) (k : ℕ) → k < length text → ((i : ℕ) → i < k → Passes (is_byte byte) text i → ⊥) → Passes (is_byte byte) text k → IsCutAt byte text (take k text) (drop (k + 1) text)
cut_at byte text k within before here = record {
  is = at_place text k within ∙ ap (λ c. take k text ++ c ∷ drop (k + 1) text) (is_passed byte text k here);
  first = none_before byte k text (λ i l e. before i l (passes byte text i e));
}

pub cut_nowhere : (byte : ℕ) (text : List ℕ) → ((i : ℕ) → i < length text → Passes (is_byte byte) text i → ⊥) → lacks byte text ≡ true
cut_nowhere byte text none = subst (λ t. lacks byte t ≡ true) (take-length text) (none_before byte (length text) text (λ i l e. none i l (passes byte text i e)))

-- the same, where what stands behind is written so
pub cut_so : (byte : ℕ) (text rest : List ℕ) (k : ℕ) → rest ≡ drop (k + 1) text → k < length text → ((i : ℕ) → i < k → Passes (is_byte byte) text i → ⊥) → Passes (is_byte byte) text k → IsCutAt byte text (take k text) rest
cut_so byte text rest k r within before here = subst (IsCutAt byte text (take k text)) (sym r) (cut_at byte text k within before here)

-- a text lacks no byte that stands in it
pub lacks_none_there : (byte : ℕ) (a s : List ℕ) → lacks byte (a ++ byte ∷ s) ≡ true → ⊥
lacks_none_there byte [] s l = lacks-head byte byte s l refl
lacks_none_there byte (c ∷ a) s l = lacks_none_there byte a s (lacks-tail byte c (a ++ byte ∷ s) l)
