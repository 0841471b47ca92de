-- Members of lists that are put together.
use Rattle.std.proofs.Common.{◌≡◌, zero, suc, ◌⊎◌, inl, inr, List, [], ◌∷◌, Bool, true, false, cond, IsTrue, refl, sym, subst, arith}
use Rattle.std.specs.List.{Contains, flat_map}
use Rattle.std.proofs.lemmas.List.Elements.{Contains-append_left, Contains-append_right, Contains-append_cases}

pub none_contained : {A : Type 0} (x : A) → Contains [] x → ⊥
none_contained x h = omega (arith, h.1)

pub first_contained : {A : Type 0} (x : A) (xs : List A) → Contains (x ∷ xs) x
first_contained x xs = (zero, omega arith, refl)

pub more_contained : {A : Type 0} (y : A) (xs : List A) (x : A) → Contains xs x → Contains (y ∷ xs) x
more_contained y xs x h = (suc h.0, omega (arith, h.1), h.2)

pub contained_cases : {A : Type 0} (y : A) (xs : List A) (x : A) → Contains (y ∷ xs) x → (y ≡ x) ⊎ Contains xs x
contained_cases y xs x (zero, l, e) = inl e
contained_cases y xs x (suc k, l, e) = inr (k, omega (arith, l), e)

-- a member of a list that some member of another gives
pub record GivenBy {A B : Type 0} (f : A → List B) (xs : List A) (y : B) : Type 0 where
  pub by : A
  pub is : Contains xs by
  pub gives : Contains (f by) y

pub given_by : {A B : Type 0} (f : A → List B) (xs : List A) (y : B) → Contains (flat_map f xs) y → GivenBy f xs y
given_by f [] y h = absurd (none_contained y h)
given_by f (x ∷ xs) y h = elim (Contains-append_cases (f x) (flat_map f xs) y h) [
  | inl a ↦ record { by = x; is = first_contained x xs; gives = a }
  | inr b ↦ let more = given_by f xs y b in record { by = more.by; is = more_contained x xs more.by more.is; gives = more.gives }
]

pub gives_all : {A B : Type 0} (f : A → List B) (xs : List A) (x : A) (y : B) → Contains xs x → Contains (f x) y → Contains (flat_map f xs) y
gives_all f [] x y h g = absurd (none_contained x h)
gives_all f (z ∷ xs) x y h g = elim (contained_cases z xs x h) [
  | inl e ↦ Contains-append_left (f z) (flat_map f xs) y (subst (λ v. Contains (f v) y) (sym e) g)
  | inr m ↦ Contains-append_right (f z) (flat_map f xs) y (gives_all f xs x y m g)
]

-- the one item of a list that has it where something is so
pub cond_contained : {A : Type 0} (b : Bool) (x y : A) → Contains (cond b (x ∷ []) []) y → IsTrue b × (x ≡ y)
cond_contained true x y h = elim (contained_cases x [] y h) [ inl e ↦ (refl, e) | inr n ↦ absurd (none_contained y n) ]
cond_contained false x y h = absurd (none_contained y h)

pub contained_cond : {A : Type 0} (b : Bool) (x : A) → IsTrue b → Contains (cond b (x ∷ []) []) x
contained_cond true x h = first_contained x []
contained_cond false x h = absurd (let wrong : false ≡ true = h in cc)

-- the items of a list that is there where something is so
pub cond_list : {A : Type 0} (b : Bool) (xs : List A) (y : A) → Contains (cond b xs []) y → IsTrue b × Contains xs y
cond_list true xs y h = (refl, h)
cond_list false xs y h = absurd (none_contained y h)

pub list_cond : {A : Type 0} (b : Bool) (xs : List A) (y : A) → IsTrue b → Contains xs y → Contains (cond b xs []) y
list_cond true xs y t h = h
list_cond false xs y t h = absurd (let wrong : false ≡ true = t in cc)
