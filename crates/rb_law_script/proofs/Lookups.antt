-- Names with values, and what one more at their end changes.
use Rattle.std.proofs.Common.{◌≡◌, refl, sym, ap, ◌∙◌, subst, ℕ, List, [], ◌∷◌, ◌++◌, Bool, true, false, cond, option_map, Option, Some, None}
use Rattle.std.specs.Str.{bytes_eq}
use Rattle.std.proofs.lemmas.Slice.Eq.{bytes_eq-Decides}
use Rattle.rb_trees.specs.Named.{first_named, lookup, replaced}

pub same_bytes : (a b : List ℕ) → bytes_eq a b ≡ true → a ≡ b
same_bytes a b h = (bytes_eq-Decides a b).0 h

pub bytes_same : (a b : List ℕ) → a ≡ b → bytes_eq a b ≡ true
bytes_same a b h = (bytes_eq-Decides a b).1 h

-- what a name has that stands first
abbrev pub first_or : {A : Type 0} → Bool → A → Option A → Option A
first_or true a o = Some a
first_or false a o = o

pub lookup_more : {A : Type 0} (name : List ℕ) (a : A) (xs : List (List ℕ × A)) (y : List ℕ) → lookup ((name, a) ∷ xs) y ≡ first_or (bytes_eq name y) a (lookup xs y)
lookup_more name a xs y = by (bytes_eq name y) refl
  where
    by : (t : Bool) → bytes_eq name y ≡ t → lookup ((name, a) ∷ xs) y ≡ first_or t a (lookup xs y)
    by true e = subst (λ t. option_map (λ n. n.1) (cond t (Some (name, a)) (first_named (λ n. n.0) xs y)) ≡ Some a) (sym e) refl
    by false e = subst (λ t. option_map (λ n. n.1) (cond t (Some (name, a)) (first_named (λ n. n.0) xs y)) ≡ lookup xs y) (sym e) refl

-- what was found is still found
pub lookup_old : {A : Type 0} (xs : List (List ℕ × A)) (y name : List ℕ) (a b : A) → lookup xs y ≡ Some b → lookup (xs ++ (name, a) ∷ []) y ≡ Some b
lookup_old [] y name a b h = absurd (cc (h))
lookup_old (x ∷ xs) y name a b h =
    lookup_more x.0 x.1 (xs ++ (name, a) ∷ []) y ∙ by (bytes_eq x.0 y) (sym (lookup_more x.0 x.1 xs y) ∙ h) (lookup_old xs y name a b)
  where
    by : (t : Bool) → first_or t x.1 (lookup xs y) ≡ Some b → (lookup xs y ≡ Some b → lookup (xs ++ (name, a) ∷ []) y ≡ Some b) → first_or t x.1 (lookup (xs ++ (name, a) ∷ []) y) ≡ Some b
    by true e rest = e
    by false e rest = rest e

-- what wasn't is the new one, if it has the name
pub lookup_new : {A : Type 0} (xs : List (List ℕ × A)) (y name : List ℕ) (a : A) → lookup xs y ≡ None → lookup (xs ++ (name, a) ∷ []) y ≡ first_or (bytes_eq name y) a None
lookup_new [] y name a h = lookup_more name a [] y
lookup_new (x ∷ xs) y name a h =
    lookup_more x.0 x.1 (xs ++ (name, a) ∷ []) y ∙ by (bytes_eq x.0 y) (sym (lookup_more x.0 x.1 xs y) ∙ h) (lookup_new xs y name a)
  where
    by : (t : Bool) → first_or t x.1 (lookup xs y) ≡ None → (lookup xs y ≡ None → lookup (xs ++ (name, a) ∷ []) y ≡ first_or (bytes_eq name y) a None)
        → first_or t x.1 (lookup (xs ++ (name, a) ∷ []) y) ≡ first_or (bytes_eq name y) a None
    by true e rest = absurd (cc (e))
    by false e rest = rest e

-- the same of things with names
pub first_old : {A : Type 0} (name_of : A → List ℕ) (xs : List A) (z : A) (y : List ℕ) (a : A) → first_named name_of xs y ≡ Some a → first_named name_of (xs ++ z ∷ []) y ≡ Some a
first_old name_of [] z y a h = absurd (cc (h))
first_old name_of (x ∷ xs) z y a h = by (bytes_eq (name_of x) y) h (first_old name_of xs z y a)
  where
    by : (t : Bool) → cond t (Some x) (first_named name_of xs y) ≡ Some a → (first_named name_of xs y ≡ Some a → first_named name_of (xs ++ z ∷ []) y ≡ Some a) → cond t (Some x) (first_named name_of (xs ++ z ∷ []) y) ≡ Some a
    by true e rest = e
    by false e rest = rest e

pub first_new : {A : Type 0} (name_of : A → List ℕ) (xs : List A) (z : A) (y : List ℕ) → first_named name_of xs y ≡ None → first_named name_of (xs ++ z ∷ []) y ≡ cond (bytes_eq (name_of z) y) (Some z) None
first_new name_of [] z y h = refl
first_new name_of (x ∷ xs) z y h = by (bytes_eq (name_of x) y) h (first_new name_of xs z y)
  where
    by : (t : Bool) → cond t (Some x) (first_named name_of xs y) ≡ None → (first_named name_of xs y ≡ None → first_named name_of (xs ++ z ∷ []) y ≡ cond (bytes_eq (name_of z) y) (Some z) None)
        → cond t (Some x) (first_named name_of (xs ++ z ∷ []) y) ≡ cond (bytes_eq (name_of z) y) (Some z) None
    by true e rest = absurd (cc (e))
    by false e rest = rest e

-- another name keeps what it has where a value is replaced
pub lookup_replaced : {A : Type 0} (xs : List (List ℕ × A)) (name y : List ℕ) (a : A) → bytes_eq name y ≡ false → lookup (replaced xs name a) y ≡ lookup xs y
lookup_replaced [] name y a h = refl
lookup_replaced (x ∷ xs) name y a h = by (bytes_eq x.0 name) refl (lookup_replaced xs name y a h)
  where
    by : (t : Bool) → bytes_eq x.0 name ≡ t → lookup (replaced xs name a) y ≡ lookup xs y → lookup (cond t ((x.0, a) ∷ xs) (x ∷ replaced xs name a)) y ≡ lookup (x ∷ xs) y
    by true e rest =
        let apart : bytes_eq x.0 y ≡ false = subst (λ z. bytes_eq z y ≡ false) (sym (same_bytes x.0 name e)) h in
        lookup_more x.0 a xs y ∙ ap (λ t. first_or t a (lookup xs y)) apart ∙ sym (lookup_more x.0 x.1 xs y ∙ ap (λ t. first_or t x.1 (lookup xs y)) apart)
    by false e rest = lookup_more x.0 x.1 (replaced xs name a) y ∙ ap (first_or (bytes_eq x.0 y) x.1) rest ∙ sym (lookup_more x.0 x.1 xs y)
