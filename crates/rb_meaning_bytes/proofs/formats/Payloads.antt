-- A payload comes to one thing.
use Rattle.std.proofs.Common.{◌≡◌, ℕ, List, [], append-nil, Result, Ok, Err, refl, ap, sym, ◌∙◌, inl, inr}
use Rattle.rb_trees.specs.declared.validity.ScriptRefusal.{ScriptRefusal}
use Rattle.rb_trees.specs.Validity.{verdict}
use Rattle.rb_meaning_bytes.specs.formats.Fields.{IsBytes}
use Rattle.rb_meaning_bytes.specs.formats.Formats.{Format, Spells}
use Rattle.rb_meaning_bytes.specs.formats.Laws.{IsPrefixFree, IsTotal, IsEither, HasOneViolation}
use Rattle.rb_meaning_bytes.specs.formats.ScriptMessages.{script_message}
use Rattle.rb_meaning_bytes.specs.formats.Messages.{Sent, Refused}
use Rattle.rb_meaning_bytes.specs.formats.ScriptPayloads.{version_of, refused, Means, taken, violated, not_valid}
use Rattle.rb_meaning_bytes.proofs.formats.Exact.{prefix_free, one_or_the_other, all_reads, all_violated, read_once, read_not_refused, refused_once}

-- ---- the laws of any format

pub is_prefix_free : {A : Type 0} (F : Format A) → IsPrefixFree F
is_prefix_free F one other more x y s t h = let e = prefix_free F one other more [] x y s t (h ∙ sym (append-nil other)) in (e.bytes, e.value)

pub is_total : {A : Type 0} (F : Format A) → IsTotal F
is_total F payload b = one_or_the_other F payload b

pub is_either : {A : Type 0} (F : Format A) → IsEither F
is_either F payload x number at b s v = read_not_refused F payload x number at b (all_reads F payload x s) v

pub has_one_violation : {A : Type 0} (F : Format A) → HasOneViolation F
has_one_violation F payload m n i j b v w =
    let a = all_violated F payload m i b v in
    let e = refused_once F payload m a.0 n j b a.1 w in
    let f = refused_once F payload m a.0 m i b a.1 v in
    (e.0, sym f.1 ∙ e.1)

-- ---- what a script's payload comes to

judged : (payload : List ℕ) (x : Sent) → Spells script_message payload x → (meant : Result Sent Refused) × Means payload meant
judged payload x s = go (verdict x.script) refl
  where
    go : (v : Result (Unit {0}) ScriptRefusal) → verdict x.script ≡ v → (meant : Result Sent Refused) × Means payload meant
    go (Ok tt) e = (Ok x, taken x s e)
    go (Err r) e = (Err (refused x.version r), not_valid x r s e)

abbrev at_place : List ℕ → ℕ → ℕ → Refused
at_place payload number at = record { version = version_of payload; number = number; at = at }

-- Each payload comes to something.
pub means_something : (payload : List ℕ) → IsBytes payload → (meant : Result Sent Refused) × Means payload meant
means_something payload b =
    elim (one_or_the_other script_message payload b) [
      | inl y ↦ judged payload y.0 y.1
      | inr v ↦ (Err (at_place payload v.0 v.1), violated v.0 v.1 v.2)
    ]

same_value : (payload : List ℕ) (x y : Sent) → Spells script_message payload x → Spells script_message payload y → x ≡ y
same_value payload x y s t = read_once script_message payload x y (all_reads script_message payload x s) t

-- And to nothing else.
pub means_once : (payload : List ℕ) (meant other : Result Sent Refused) → IsBytes payload → Means payload meant → Means payload other → meant ≡ other
means_once payload _ _ b (taken x s e) (taken y t f) = ap Ok (same_value payload x y s t)
means_once payload _ _ b (taken x s e) (violated n i v) = absurd (is_either script_message payload x n i b s v)
means_once payload _ _ b (taken x s e) (not_valid y r t f) = let g = sym e ∙ ap (λ z. verdict z.script) (same_value payload x y s t) ∙ f in absurd cc
means_once payload _ _ b (violated m i v) (taken y t f) = absurd (is_either script_message payload y m i b t v)
means_once payload _ _ b (violated m i v) (violated n j w) =
    let h = has_one_violation script_message payload m n i j b v w in
    ap (λ k. Err (at_place payload k i)) h.0 ∙ ap (λ k. Err (at_place payload n k)) h.1
means_once payload _ _ b (violated m i v) (not_valid y r t f) = absurd (is_either script_message payload y m i b t v)
means_once payload _ _ b (not_valid x r s e) (taken y t f) = let g = sym e ∙ ap (λ z. verdict z.script) (same_value payload x y s t) ∙ f in absurd cc
means_once payload _ _ b (not_valid x r s e) (violated n i v) = absurd (is_either script_message payload x n i b s v)
means_once payload _ _ b (not_valid x r s e) (not_valid y q t f) =
    let g : Err r ≡ Err q = sym e ∙ ap (λ z. verdict z.script) (same_value payload x y s t) ∙ f in
    let h : r ≡ q = cc in
    ap (λ z. Err (refused z r)) (ap (λ z. z.version) (same_value payload x y s t)) ∙ ap (λ z. Err (refused y.version z)) h
