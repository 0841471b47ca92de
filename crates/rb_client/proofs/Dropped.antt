-- The items of a list from a place on.
use Rattle.std.proofs.Common.{◌≡◌, sym, ap, ◌∙◌, ℕ, zero, suc, ◌+◌, ◌<◌, arith, List, [], ◌∷◌, length, drop, get_or}

one_dropped : {A : Type 0} (xs : List A) (i : ℕ) (x : A) → i < length xs → x ≡ get_or xs i x → drop i xs ≡ x ∷ drop (suc i) xs
one_dropped [] i x h e = absurd (omega arith)
one_dropped (y ∷ xs) zero x h e = ap (λ z. z ∷ xs) (sym e)
one_dropped (y ∷ xs) (suc i) x h e = one_dropped xs i x (omega arith) e

pub dropped_one : {A : Type 0} (xs : List A) (i : ℕ) (x : A) → i < length xs → x ≡ get_or xs i x → drop i xs ≡ x ∷ drop (i + 1) xs
dropped_one xs i x h e = let next : suc i ≡ i + 1 = omega arith in one_dropped xs i x h e ∙ ap (λ n. x ∷ drop n xs) next
