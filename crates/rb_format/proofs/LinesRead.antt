-- Lines of a text, and what begins with some bytes.
use Rattle.std.specs.Prelude.{slice_index, codes}
use Rattle.std.proofs.Common.{◌≡◌, ℕ, suc, ◌+◌, ◌<◌, List, [], ◌∷◌, ◌++◌, length, take, drop, refl, sym, ap, ◌∙◌, subst, arith, append_assoc, inl, inr, rules}
use Rattle.std.proofs.Math.Seq.{drop-cons}
use Rattle.std.proofs.lemmas.Bool.Decides.{nat_tests}
use Rattle.std.proofs.lemmas.Grind.{common_steps}
use Rattle.std.proofs.lemmas.List.{take-append-drop, get_or-take}
use Rattle.memchr.specs.Find.{is_byte, Passes}
use Rattle.rb_meaning.specs.Shown.{line}
use Rattle.rb_format.specs.Woven.{BeginsWithLine, EndsAs, IsCommentLine, IsWoven, ends, comment_line, printed_line}

passes : (byte : ℕ) (text : List ℕ) (k : ℕ) → slice_index text k ≡ byte → Passes (is_byte byte) text k
passes byte text k e = grind (arith, nat_tests)

is_passed : (byte : ℕ) (text : List ℕ) (k : ℕ) → Passes (is_byte byte) text k → slice_index text k ≡ byte
is_passed byte text k e = grind (arith, nat_tests)

at_place : (text : List ℕ) (k : ℕ) → k < length text → text ≡ take k text ++ slice_index text k ∷ drop (k + 1) text
at_place text k within =
    let next : k + 1 ≡ suc k = omega arith in
    rw next (sym (take-append-drop k text) ∙ ap (λ rest. take k text ++ rest) (drop-cons text k 0 within))

-- up to the first line feed stands a line
pub at_feed : (text rest : List ℕ) (k : ℕ) → rest ≡ drop (k + 1) text → k < length text → ((i : ℕ) → i < k → Passes (is_byte 10) text i → ⊥) → Passes (is_byte 10) text k → BeginsWithLine text (take k text) rest
at_feed text rest k r within before here = (
  at_place text k within
      ∙ ap (λ c. take k text ++ c ∷ drop (k + 1) text) (is_passed 10 text k here)
      ∙ ap (λ s. take k text ++ 10 ∷ s) (sym r)
      ∙ sym (append_assoc (take k text) (10 ∷ []) rest),
  λ i l e. let low : i < k = grind (arith, common_steps) in before i low (passes 10 text i (sym (get_or-take k text i 0 low) ∙ e)),
)

-- nothing is left
nothing : (l : List ℕ) → length l ≡ 0 → l ≡ []
nothing [] e = refl
nothing (x ∷ l) e = absurd (omega arith)

pub both_end : (printed text : List ℕ) → length printed ≡ 0 → length text ≡ 0 → IsWoven printed text
both_end printed text p t = subst (λ l. IsWoven l text) (sym (nothing printed p)) (subst (λ l. IsWoven [] l) (sym (nothing text t)) ends)

-- behind the first line

pub behind_comment : (printed text bytes rest : List ℕ) → BeginsWithLine text bytes rest → IsCommentLine bytes → IsWoven printed rest → IsWoven printed text
behind_comment printed text bytes rest b c w = subst (IsWoven printed) (sym b.0) (comment_line bytes b.1 c w)

pub behind_printed : (printed text wanted more bytes rest : List ℕ) → BeginsWithLine printed wanted more → BeginsWithLine text bytes rest → EndsAs wanted bytes → IsWoven more rest → IsWoven printed text
behind_printed printed text wanted more bytes rest p b e w =
    subst (λ l. IsWoven l text) (sym p.0) (subst (IsWoven (line wanted ++ more)) (sym b.0) (printed_line wanted bytes p.1 b.1 e w))

-- how a line ends

pub ends_plain : (wanted bytes behind : List ℕ) → bytes ≡ wanted ++ behind → length behind ≡ 0 → EndsAs wanted bytes
ends_plain wanted bytes behind is none =
    let whole : wanted ++ [] ≡ wanted = search rules in
    inl (is ∙ ap (λ b. wanted ++ b) (nothing behind none) ∙ whole)

pub ends_commented : (wanted bytes behind rest : List ℕ) → bytes ≡ wanted ++ behind → behind ≡ codes "  //" ++ rest → EndsAs wanted bytes
ends_commented wanted bytes behind rest is begins =
    inr (rest, is ∙ ap (λ b. wanted ++ b) begins ∙ sym (append_assoc wanted (codes "  //") rest))
