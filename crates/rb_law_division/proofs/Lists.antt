-- What holds of each item of a list.
use Rattle.std.proofs.Common.{◌≡◌, sym, subst, zero, suc, List, [], ◌∷◌, ◌++◌, Bool, true, false, cond, arith, All}
use Rattle.std.specs.List.{AllByRecursion, Contains, flat_map}
use Rattle.std.proofs.lemmas.List.Elements.{All-head, All-tail}

pub each : {A : Type 0} (P : A → Type 0) (xs : List A) (x : A) → AllByRecursion P xs → Contains xs x → P x
each P [] x h c = absurd (omega (arith, c.1))
each P (y ∷ ys) x h (zero, l, e) = subst P e h.0
each P (y ∷ ys) x h (suc k, l, e) = each P ys x h.1 (k, omega (arith, l), e)

pub all_both : {A : Type 0} (P : A → Type 0) (xs ys : List A) → AllByRecursion P xs → AllByRecursion P ys → AllByRecursion P (xs ++ ys)
all_both P [] ys h g = g
all_both P (x ∷ xs) ys h g = (h.0, all_both P xs ys h.1 g)

pub all_left : {A : Type 0} (P : A → Type 0) (xs ys : List A) → AllByRecursion P (xs ++ ys) → AllByRecursion P xs
all_left P [] ys h = tt
all_left P (x ∷ xs) ys h = (h.0, all_left P xs ys h.1)

pub all_right : {A : Type 0} (P : A → Type 0) (xs ys : List A) → AllByRecursion P (xs ++ ys) → AllByRecursion P ys
all_right P [] ys h = h
all_right P (x ∷ xs) ys h = all_right P xs ys h.1

pub all_weaker : {A : Type 0} (P Q : A → Type 0) (xs : List A) → ((x : A) → P x → Q x) → AllByRecursion P xs → AllByRecursion Q xs
all_weaker P Q [] f h = tt
all_weaker P Q (x ∷ xs) f h = (f x h.0, all_weaker P Q xs f h.1)

pub all_given : {A B : Type 0} (P : B → Type 0) (Q : A → Type 0) (f : A → List B) (xs : List A) → ((x : A) → Q x → AllByRecursion P (f x)) → AllByRecursion Q xs → AllByRecursion P (flat_map f xs)
all_given P Q f [] g h = tt
all_given P Q f (x ∷ xs) g h = all_both P (f x) (flat_map f xs) (g x h.0) (all_given P Q f xs g h.1)

pub recursively : {A : Type 0} (P : A → Type 0) (xs : List A) → All P xs → AllByRecursion P xs
recursively P [] h = tt
recursively P (x ∷ xs) h = (All-head P x xs h, recursively P xs (All-tail P x xs h))

pub cond_is : {A : Type 0} (P : A → Type 0) (b : Bool) (x y : A) → P x → P y → P (cond b x y)
cond_is P true x y h g = h
cond_is P false x y h g = g

pub none_both : {A : Type 0} (xs ys : List A) → xs ≡ [] → ys ≡ [] → xs ++ ys ≡ []
none_both xs ys h g = subst (λ (zs : List _). zs ++ ys ≡ []) (sym h) g
