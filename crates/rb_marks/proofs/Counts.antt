-- How often a position stands in a list, and what that tells of the first note at it.
use Rattle.std.proofs.Common.{◌≡◌, ℕ, zero, suc, ◌+◌, ◌<◌, ◌≤◌, List, [], ◌∷◌, ◌++◌, map, length, get_or, true, false, cond, nat_eq, Some, None, refl, sym, ap, subst, ◌∙◌, ◌⊎◌, inl, inr, arith}
use Rattle.std.specs.List.{Contains, flat_map, IsDistinct, AllByRecursion}
use Rattle.std.specs.Ordering.{nat_cmp, is_eq}
use Rattle.std.specs.declared.cmp.Ordering.{Ordering}
use Rattle.std.specs.declared.cmp.Ordering.TheVariants.{Less, Equal, Greater}
use Rattle.std.specs.Cmp.{nat_cmp_total, eq_by_cmp_equiv}
use Rattle.std.specs.BTreeMap.{is_at}
use Rattle.std.proofs.lemmas.Map.Lookups.{exact_unsigned}
use Rattle.std.proofs.lemmas.Map.Keys.{IsDistinct-head, IsDistinct-tail}
use Rattle.std.proofs.lemmas.Bool.{cases_Bool, cond-true, cond-false, eq-eqb, true≢false}
use Rattle.std.proofs.lemmas.List.Elements.{Contains-append_left, Contains-append_right, Contains-append_cases}
use Rattle.rb_marks.specs.Notes.{first_at}

is_equal : (r : Ordering) → is_eq r ≡ true → r ≡ Equal
is_equal Less e = cc
is_equal Equal e = refl
is_equal Greater e = cc

same_at : (a b : ℕ) → is_at (nat_cmp a) b ≡ true → a ≡ b
same_at a b e = exact_unsigned a b (is_equal (nat_cmp a b) e)

pub at_itself : (a b : ℕ) → a ≡ b → is_at (nat_cmp a) b ≡ true
at_itself a b e = ap (λ q. is_at (nat_cmp a) q) (sym e) ∙ (eq_by_cmp_equiv nat_cmp_total).refl a

-- one where two positions are the same
abbrev pub here : ℕ → ℕ → ℕ
here q x = cond (is_at (nat_cmp x) q) 1 0

here_one : (q x : ℕ) → is_at (nat_cmp x) q ≡ true → here q x ≡ 1
here_one q x e = cond-true _ _ _ e

here_none : (q x : ℕ) → is_at (nat_cmp x) q ≡ false → here q x ≡ 0
here_none q x e = cond-false _ _ _ e

abbrev pub count : ℕ → List ℕ → ℕ
count q [] = 0
count q (x ∷ xs) = here q x + count q xs

pub count_append : (q : ℕ) (xs ys : List ℕ) → count q (xs ++ ys) ≡ count q xs + count q ys
count_append q [] ys = omega arith
count_append q (x ∷ xs) ys = omega (arith, count_append q xs ys)

-- what differs from a position doesn't stand at it
apart : (q x : ℕ) (xs : List ℕ) → x ≡ q → AllByRecursion (λ y. nat_eq x y ≡ false) xs → count q xs ≡ 0
apart q x [] e h = refl
apart q x (y ∷ ys) e h = elim (cases_Bool (is_at (nat_cmp y) q)) [
  | inl is ↦ absurd (true≢false (sym (eq-eqb x y (e ∙ sym (same_at y q is))) ∙ h.0))
  | inr isnt ↦ omega (arith, here_none q y isnt, apart q x ys e h.1)
]

-- in a list of positions that differ each stands once at most
pub at_most_once : (q : ℕ) (xs : List ℕ) → IsDistinct nat_eq xs → count q xs ≤ 1
at_most_once q [] d = omega arith
at_most_once q (x ∷ xs) d = elim (cases_Bool (is_at (nat_cmp x) q)) [
  | inl is ↦ omega (arith, here_one q x is, apart q x xs (same_at x q is) (IsDistinct-head nat_eq x xs d))
  | inr isnt ↦ omega (arith, here_none q x isnt, at_most_once q xs (IsDistinct-tail nat_eq x xs d))
]

-- what one of a list is: the first or one of the rest
pub contains_cases : {A : Type 0} (t a : A) (ts : List A) → Contains (t ∷ ts) a → (t ≡ a) ⊎ Contains ts a
contains_cases {A} t a ts h = at h.0 h.1 h.2
  where
    at : (k : ℕ) → k < length (t ∷ ts) → get_or (t ∷ ts) k a ≡ a → (t ≡ a) ⊎ Contains ts a
    at zero l e = inl e
    at (suc k) l e = inr (k, omega arith, e)

pub first_one : {A : Type 0} (t : A) (ts : List A) → Contains (t ∷ ts) t
first_one t ts = (zero, omega arith, refl)

pub one_more : {A : Type 0} (t a : A) (ts : List A) → Contains ts a → Contains (t ∷ ts) a
one_more t a ts h = (suc h.0, omega (arith, h.1), h.2)

-- the position of one of a list stands there
counted : {A : Type 0} (at : A → ℕ) (us : List A) (a : A) → Contains us a → 1 ≤ count (at a) (map at us)
counted at [] a h = absurd (omega (arith, h.1))
counted at (t ∷ ts) a h = elim (contains_cases t a ts h) [
  | inl e ↦ omega (arith, here_one (at a) (at t) (at_itself (at t) (at a) (ap at e)))
  | inr m ↦ omega (arith, counted at ts a m)
]

-- the note of one of a list, whose position stands there once
pub found : {A N : Type 0} (at : A → ℕ) (note : A → N) (us : List A) (a : A) → Contains us a → count (at a) (map at us) ≤ 1
    → first_at (map (λ t. (at t, note t)) us) (at a) None ≡ Some (note a)
found at note [] a h once = absurd (omega (arith, h.1))
found at note (t ∷ ts) a h once = elim (cases_Bool (is_at (nat_cmp (at t)) (at a))) [
  | inl is ↦ cond-true _ _ _ is ∙ elim (contains_cases t a ts h) [
    | inl e ↦ ap (λ r. Some (note r)) e
    | inr m ↦ absurd (omega (arith, here_one (at a) (at t) is, once, counted at ts a m))
  ]
  | inr isnt ↦ cond-false _ _ _ isnt ∙ elim (contains_cases t a ts h) [
    | inl e ↦ absurd (true≢false (sym (at_itself (at t) (at a) (ap at e)) ∙ isnt))
    | inr m ↦ found at note ts a m (omega (arith, here_none (at a) (at t) isnt, once))
  ]
]

-- no note at a position where none of a list stands
pub found_none : {A N : Type 0} (at : A → ℕ) (note : A → N) (us : List A) (q : ℕ) → ((a : A) → Contains us a → at a ≡ q → ⊥)
    → first_at (map (λ t. (at t, note t)) us) q None ≡ None
found_none at note [] q absent = refl
found_none at note (t ∷ ts) q absent = elim (cases_Bool (is_at (nat_cmp (at t)) q)) [
  | inl is ↦ absurd (absent t (first_one t ts) (same_at _ _ is))
  | inr isnt ↦ cond-false _ _ _ isnt ∙ found_none at note ts q (λ a m e. absent a (one_more t a ts m) e)
]

-- what stands in one of some lists stands in all of them together, and the other way round
pub in_all : {A B : Type 0} (f : B → List A) (bs : List B) (b : B) (a : A) → Contains bs b → Contains (f b) a → Contains (flat_map f bs) a
in_all f [] b a h m = absurd (omega (arith, h.1))
in_all f (c ∷ cs) b a h m = elim (contains_cases c b cs h) [
  | inl e ↦ Contains-append_left (f c) (flat_map f cs) a (subst (λ d. Contains (f d) a) (sym e) m)
  | inr n ↦ Contains-append_right (f c) (flat_map f cs) a (in_all f cs b a n m)
]

pub in_one : {A B : Type 0} (f : B → List A) (bs : List B) (a : A) → Contains (flat_map f bs) a → (b : B) × Contains bs b × Contains (f b) a
in_one f [] a h = absurd (omega (arith, h.1))
in_one f (c ∷ cs) a h = elim (Contains-append_cases (f c) (flat_map f cs) a h) [
  | inl m ↦ (c, first_one c cs, m)
  | inr m ↦ (let n = in_one f cs a m in (n.0, one_more c n.0 cs n.1, n.2))
]
