-- The division that is found by its place.
use Rattle.std.proofs.Common.{◌≡◌, refl, sym, ap, ◌∙◌, ℕ, zero, suc, ◌+◌, ◌<◌, arith, List, [], ◌∷◌, length, drop, get_or}
use Rattle.std.specs.Prelude.{Bool, true, false, cond, nat_eq, Option, Some, option_and_then, slice_get}
use Rattle.rb_trees.specs.declared.remainders.Split.{Split}
use Rattle.rb_client.specs.Splits.{ArePlaces, Notes, place_in, split_at}
use Rattle.rb_client.proofs.Dropped.{dropped_one}

here_at : (xs : List Split) (i : ℕ) (y : Split) (ys : List Split) → drop i xs ≡ y ∷ ys → slice_get xs i ≡ Some y
here_at [] zero y ys e = absurd (cc e)
here_at [] (suc i) y ys e = absurd (cc e)
here_at (x ∷ xs) zero y ys e = cc e
here_at (x ∷ xs) (suc i) y ys e = here_at xs i y ys e

behind_at : (xs : List Split) (i : ℕ) (y : Split) (ys : List Split) → drop i xs ≡ y ∷ ys → drop (suc i) xs ≡ ys
behind_at [] zero y ys e = absurd (cc e)
behind_at [] (suc i) y ys e = absurd (cc e)
behind_at (x ∷ xs) zero y ys e = cc e
behind_at (x ∷ xs) (suc i) y ys e = behind_at xs i y ys e

by_stand : (t : Bool) (f : ℕ → Option Split) (place : ℕ) (rest : Option ℕ) (s : Split) (more : Option Split) → f place ≡ Some s → option_and_then f rest ≡ more
    → option_and_then f (cond t (Some place) rest) ≡ cond t (Some s) more
by_stand true f place rest s more e h = e
by_stand false f place rest s more e h = h

looked_up : (all ss : List Split) (at place : ℕ) → drop place all ≡ ss → option_and_then (λ p. slice_get all p) (place_in ss at place) ≡ split_at ss at
looked_up all [] at place e = refl
looked_up all (s ∷ ss) at place e =
    by_stand (nat_eq s.at at) (λ p. slice_get all p) place (place_in ss at (suc place)) s (split_at ss at) (here_at all place s ss e)
    (looked_up all ss at (suc place) (behind_at all place s ss e))

-- what stands at the place of a position
pub found_at : (splits : List Split) (place : ℕ → Option ℕ) (at : ℕ) → ArePlaces place splits → option_and_then (λ p. slice_get splits p) (place at) ≡ split_at splits at
found_at splits place at h = ap (option_and_then (λ p. slice_get splits p)) (h at) ∙ looked_up splits splits at 0 refl

-- places of divisions from a place on, and of one more
pub place_more : (all : List Split) (place next : ℕ) (s : Split) (before now : ℕ → Option ℕ) → place < length all → next ≡ place + 1 → s ≡ get_or all place s → Notes s place before now
    → ((at : ℕ) → before at ≡ place_in (drop next all) at next) → (at : ℕ) → now at ≡ place_in (drop place all) at place
place_more all place next s before now l n is h e = λ at.
    let m : suc place ≡ next = omega arith in
    h at ∙ ap (λ x. cond (nat_eq s.at at) (Some place) x) (e at ∙ ap (λ k. place_in (drop k all) at k) (sym m))
    ∙ ap (λ xs. place_in xs at place) (sym (dropped_one all place s l is ∙ ap (λ k. s ∷ drop k all) (n_suc place)))
  where
    n_suc : (k : ℕ) → k + 1 ≡ suc k
    n_suc k = omega arith
