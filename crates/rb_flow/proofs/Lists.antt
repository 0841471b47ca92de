-- Membership in lists of numbers, and places without a level.
use Rattle.std.proofs.Common.{◌≡◌, ℕ, zero, suc, ◌+◌, ◌<◌, ◌≤◌, ◌⊎◌, inl, inr, List, [], ◌∷◌, ◌++◌, length, set, get_or, arith}
use Rattle.std.specs.List.{Contains}
use Rattle.rb_flow.specs.Levels.{Among, zeros}

pub among_left : (xs ys : List ℕ) (n : ℕ) → Among xs n → Among (xs ++ ys) n
among_left [] ys n h = absurd h
among_left (x ∷ xs) ys n h = elim h [ inl e ↦ inl e | inr m ↦ inr (among_left xs ys n m) ]

pub among_right : (xs ys : List ℕ) (n : ℕ) → Among ys n → Among (xs ++ ys) n
among_right [] ys n h = h
among_right (x ∷ xs) ys n h = inr (among_right xs ys n h)

pub among_cases : (xs ys : List ℕ) (n : ℕ) → Among (xs ++ ys) n → Among xs n ⊎ Among ys n
among_cases [] ys n h = inr h
among_cases (x ∷ xs) ys n h = elim h [
  | inl e ↦ inl (inl e)
  | inr m ↦ elim (among_cases xs ys n m) [ inl a ↦ inl (inr a) | inr b ↦ inr b ]
]

pub among_at : (xs : List ℕ) (k n : ℕ) → k < length xs → get_or xs k n ≡ n → Among xs n
among_at [] k n h e = absurd (omega arith)
among_at (x ∷ xs) zero n h e = inl e
among_at (x ∷ xs) (suc k) n h e = inr (among_at xs k n (omega arith) e)

pub among_contained : (xs : List ℕ) (n : ℕ) → Contains xs n → Among xs n
among_contained xs n h = among_at xs h.0 n h.1 h.2

pub contained_among : (xs : List ℕ) (n : ℕ) → Among xs n → Contains xs n
contained_among [] n h = absurd h
contained_among (x ∷ xs) n h = elim h [
  | inl e ↦ (zero, omega arith, e)
  | inr m ↦ let c = contained_among xs n m in (suc c.0, omega (arith, c.1), c.2)
]

pub zeros_set : (xs : List ℕ) (i v : ℕ) → i < length xs → get_or xs i 0 ≡ 0 → 1 ≤ v → zeros (set xs i v) + 1 ≡ zeros xs
zeros_set [] i v h e p = absurd (omega arith)
zeros_set (zero ∷ xs) zero zero h e p = absurd (omega arith)
zeros_set (zero ∷ xs) zero (suc v) h e p = omega arith
zeros_set (suc x ∷ xs) zero v h e p = absurd (omega arith)
zeros_set (zero ∷ xs) (suc i) v h e p = let again = zeros_set xs i v (omega arith) e p in omega arith
zeros_set (suc x ∷ xs) (suc i) v h e p = zeros_set xs i v (omega arith) e p
