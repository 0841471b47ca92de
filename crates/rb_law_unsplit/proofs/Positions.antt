-- Positions that differ.
use Rattle.std.proofs.Common.{◌≡◌, refl, sym, ◌∙◌, ℕ, List, [], ◌∷◌, ◌++◌, Bool, true, false, nat_eq}
use Rattle.std.specs.List.{AllByRecursion, IsDistinct}
use Rattle.std.proofs.lemmas.Bool.{eq-eqb, eqb-true, true≢false}

pub same_at : (a b : ℕ) → nat_eq a b ≡ true → a ≡ b
same_at a b e = eqb-true a b e

pub apart_sym : (a b : ℕ) → nat_eq a b ≡ false → nat_eq b a ≡ false
apart_sym a b h = by (nat_eq b a) refl
  where
    by : (t : Bool) → nat_eq b a ≡ t → t ≡ false
    by true e = absurd (true≢false (sym (eq-eqb a b (sym (same_at b a e))) ∙ h))
    by false e = refl

pub same_position : (q : ℕ) → nat_eq q q ≡ true
same_position q = eq-eqb q q refl

-- none of the positions is this one
abbrev pub Apart : ℕ → List ℕ → Type 0
Apart q xs = AllByRecursion (λ y. nat_eq y q ≡ false) xs

abbrev pub Differ : List ℕ → Type 0
Differ [] = Unit {0}
Differ (x ∷ xs) = Apart x xs × Differ xs

apart_from : (x : ℕ) (xs : List ℕ) → AllByRecursion (λ y. nat_eq x y ≡ false) xs → Apart x xs
apart_from x [] h = tt
apart_from x (y ∷ ys) h = (apart_sym x y h.0, apart_from x ys h.1)

pub differ_from : (xs : List ℕ) → IsDistinct nat_eq xs → Differ xs
unfolding IsDistinct
differ_from [] h = tt
differ_from (x ∷ xs) h = (apart_from x xs h.0, differ_from xs h.1)

pub apart_left : (q : ℕ) (xs ys : List ℕ) → Apart q (xs ++ ys) → Apart q xs
apart_left q [] ys h = tt
apart_left q (x ∷ xs) ys h = (h.0, apart_left q xs ys h.1)

pub apart_right : (q : ℕ) (xs ys : List ℕ) → Apart q (xs ++ ys) → Apart q ys
apart_right q [] ys h = h
apart_right q (x ∷ xs) ys h = apart_right q xs ys h.1

pub differ_left : (xs ys : List ℕ) → Differ (xs ++ ys) → Differ xs
differ_left [] ys h = tt
differ_left (x ∷ xs) ys h = (apart_left x xs ys h.0, differ_left xs ys h.1)

pub differ_right : (xs ys : List ℕ) → Differ (xs ++ ys) → Differ ys
differ_right [] ys h = h
differ_right (x ∷ xs) ys h = differ_right xs ys h.1

-- each of some positions is none of others
abbrev pub EachApart : List ℕ → List ℕ → Type 0
EachApart ys xs = AllByRecursion (λ y. Apart y xs) ys

pub each_none : (ys : List ℕ) → EachApart ys []
each_none [] = tt
each_none (y ∷ ys) = (tt, each_none ys)

pub each_more : (x : ℕ) (ys xs : List ℕ) → Apart x ys → EachApart ys xs → EachApart ys (x ∷ xs)
each_more x [] xs a h = tt
each_more x (y ∷ ys) xs a h = ((apart_sym y x a.0, h.0), each_more x ys xs a.1 h.1)

pub differ_apart : (xs ys : List ℕ) → Differ (xs ++ ys) → EachApart ys xs
differ_apart [] ys h = each_none ys
differ_apart (x ∷ xs) ys h = each_more x ys xs (apart_right x xs ys h.0) (differ_apart xs ys h.1)
