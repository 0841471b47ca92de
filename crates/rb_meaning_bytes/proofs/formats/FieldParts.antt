-- What the laws of all fields share.
use Rattle.std.proofs.Common.{◌≡◌, ◌⊎◌, ℕ, suc, ◌+◌, ◌<◌, Bool, true, false, cond, List, ◌∷◌, ◌++◌, length, take, drop, Result, Ok, Err, refl, ap, ◌∙◌, subst, arith, inl, inr}
use Rattle.std.proofs.lemmas.Bool.{cases_lt}
use Rattle.std.proofs.lemmas.List.{length-take, get_or-drop, get_or-take, get_or_past}
use Rattle.std.proofs.Math.Seq.{drop-append_seam}
use Rattle.rb_meaning_bytes.specs.formats.Fields.{IsBytes, Field, Of, spelled, Fits, needs, Wrong, Violates, wrong, cut}
use Rattle.rb_meaning_bytes.specs.formats.Reading.{Fault, is_cut}

pub IsBytes-drop : (n : ℕ) (bytes : List ℕ) → IsBytes bytes → IsBytes (drop n bytes)
IsBytes-drop n bytes h i = rw get_or-drop (h (n + i))

pub IsBytes-take : (n : ℕ) (bytes : List ℕ) → IsBytes bytes → IsBytes (take n bytes)
IsBytes-take n bytes h i =
    elim (cases_lt i n) [
      | inl lt ↦ rw (get_or-take n bytes i 0 lt) (h i)
      | inr le ↦ rw (get_or_past (take n bytes) i 0 (omega (arith, length-take n bytes))) (omega arith)
    ]

pub IsBytes-rest : (b : ℕ) (bytes : List ℕ) → IsBytes (b ∷ bytes) → IsBytes bytes
IsBytes-rest b bytes h i = h (suc i)

pub rest_bytes : (payload front rest : List ℕ) → payload ≡ front ++ rest → IsBytes payload → IsBytes rest
rest_bytes payload front rest i b = subst IsBytes (ap (λ l. drop (length front) l) i ∙ drop-append_seam front rest) (IsBytes-drop (length front) payload b)

-- a field at the front of the bytes
pub record Took (f : Field) (bytes : List ℕ) (x : Of f × List ℕ) : Type 0 where
  pub is : bytes ≡ spelled f x.0 ++ x.1
  pub fits : Fits f x.0
  pub rest_fits : IsBytes x.1

-- what a test says of the answer
pub good : {A : Type 0} (b : Bool) (y x : A) (e : Fault) → cond b (Ok y) (Err e) ≡ Ok x → (b ≡ true) × (y ≡ x)
good true y x e h = (refl, cc)
good false y x e h = absurd cc

pub good_else : {A : Type 0} (b : Bool) (r : Result A Fault) (x : A) (e : Fault) → cond b (Err e) r ≡ Ok x → (b ≡ false) × (r ≡ Ok x)
good_else true r x e h = absurd cc
good_else false r x e h = (refl, h)

pub bad : {A : Type 0} (b : Bool) (y : A) (d e : Fault) → cond b (Ok y) (Err d) ≡ Err e → (b ≡ false) × (d ≡ e)
bad true y d e h = absurd cc
bad false y d e h = (refl, cc)

pub bad_else : {A : Type 0} (b : Bool) (r : Result A Fault) (d e : Fault) → cond b (Err d) r ≡ Err e → ((b ≡ true) × (d ≡ e)) ⊎ ((b ≡ false) × (r ≡ Err e))
bad_else true r d e h = inl (refl, cc)
bad_else false r d e h = inr (refl, h)

-- a violation at its place
pub cut_at : (f : Field) (bytes : List ℕ) (e : Fault) → is_cut ≡ e → length bytes < needs f bytes → ((n : ℕ) → ¬ Wrong f bytes n) → Violates f bytes e.0 e.1
cut_at f bytes e i h w = subst (λ z. Violates f bytes z.0 z.1) i (cut h w)

pub wrong_at : (f : Field) (bytes : List ℕ) (n : ℕ) (e : Fault) → (n, length bytes) ≡ e → Wrong f bytes n → Violates f bytes e.0 e.1
wrong_at f bytes n e i w = subst (λ z. Violates f bytes z.0 z.1) i (wrong w)
