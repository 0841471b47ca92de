-- The items of a list that are left: the next one, and those behind it.
use Rattle.std.proofs.Common.{◌≡◌, ℕ, ◌+◌, suc, zero, List, [], ◌∷◌, drop, Some, ap, slice_get, add-one}

found_next_suc : {X : Type 0} (xs : List X) (i : ℕ) (x : X) → slice_get xs i ≡ Some x → drop i xs ≡ x ∷ drop (suc i) xs
found_next_suc [] i x e = cc
found_next_suc (y ∷ ys) zero x e = let same : y ≡ x = cc in ap (λ z. z ∷ ys) same
found_next_suc (y ∷ ys) (suc i) x e = found_next_suc ys i x e

pub found_next : {X : Type 0} (xs : List X) (i : ℕ) (x : X) → slice_get xs i ≡ Some x → drop i xs ≡ x ∷ drop (i + 1) xs
found_next xs i x e = rw add-one (found_next_suc xs i x e)
