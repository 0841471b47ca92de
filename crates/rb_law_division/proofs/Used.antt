-- The constant variables that a batch's script uses are its inputs.
use Rattle.std.proofs.Common.{◌≡◌, ◌⊎◌, inl, inr, refl, ap, List, [], ◌∷◌, ℕ, Bool as Truth, true, false, cond}
use Rattle.std.specs.List.{AllByRecursion, flat_map}
use Rattle.std.specs.Str.{bytes_eq}
use Rattle.std.proofs.lemmas.Slice.Eq.{bytes_eq-Decides}
use Rattle.rb_trees.specs.mirror.Code.{Expr}
use Rattle.rb_meaning_types.specs.Names.{is_new}
use Rattle.rb_meaning_flow.specs.Scopes.{Scope}
use Rattle.rb_meaning_split.specs.Inputs.{constants, first_uses}
use Rattle.rb_law_division.proofs.Lists.{all_left, all_right, all_weaker}

-- A name is among these.
abbrev pub IsIn : List (List ℕ) → List ℕ → Type 0
IsIn names q = is_new q names ≡ false

abbrev pub AreIn : List (List ℕ) → List (List ℕ) → Type 0
AreIn names qs = AllByRecursion (IsIn names) qs

-- the constant variables of each of some expressions are
abbrev pub EachIn : List (List ℕ) → Scope → List Expr → Type 0
EachIn names scope es = AllByRecursion (λ e. AreIn names (constants scope e)) es

pub each_in : (names : List (List ℕ)) (scope : Scope) (es : List Expr) → AreIn names (flat_map (constants scope) es) → EachIn names scope es
each_in names scope [] h = tt
each_in names scope (e ∷ es) h =
    (all_left (IsIn names) (constants scope e) (flat_map (constants scope) es) h, each_in names scope es (all_right (IsIn names) (constants scope e) (flat_map (constants scope) es) h))

-- ---- first uses

abbrev Used : List (List ℕ) → List (List ℕ) → List ℕ → Type 0
Used before uses q = IsIn before q ⊎ IsIn uses q

itself : (q : List ℕ) (names : List (List ℕ)) → IsIn (q ∷ names) q
itself q names = ap (λ (t : Truth). cond t false (is_new q names)) ((bytes_eq-Decides q q).1 refl)

or_more : (t u : Truth) → u ≡ false → cond t false u ≡ false
or_more true u h = refl
or_more false u h = h

-- a name that was used before, or first here
used_here : (n : List ℕ) (before uses : List (List ℕ)) (q : List ℕ) → Used (n ∷ before) uses q → Used before (n ∷ uses) q
used_here n before uses q (inr h) = inr (or_more (bytes_eq n q) (is_new q uses) h)
used_here n before uses q (inl h) = by (bytes_eq n q) refl h
  where
    by : (t : Truth) → bytes_eq n q ≡ t → cond t false (is_new q before) ≡ false → Used before (n ∷ uses) q
    by true e g = inr (ap (λ (t : Truth). cond t false (is_new q uses)) e)
    by false e g = inl g

all_used : (before qs : List (List ℕ)) → AllByRecursion (Used before (first_uses before qs)) qs
all_used before [] = tt
all_used before (n ∷ qs) = by (is_new n before) refl (all_used (n ∷ before) qs) (all_used before qs)
  where
    by : (t : Truth) → is_new n before ≡ t → AllByRecursion (Used (n ∷ before) (first_uses (n ∷ before) qs)) qs → AllByRecursion (Used before (first_uses before qs)) qs
        → AllByRecursion (Used before (cond t (n ∷ first_uses (n ∷ before) qs) (first_uses before qs))) (n ∷ qs)
    by true e more same =
        (inr (itself n (first_uses (n ∷ before) qs)), all_weaker (Used (n ∷ before) (first_uses (n ∷ before) qs)) (Used before (n ∷ first_uses (n ∷ before) qs)) qs (used_here n before (first_uses (n ∷ before) qs)) more)
    by false e more same = (inl e, same)

pub uses_in : (qs : List (List ℕ)) → AreIn (first_uses [] qs) qs
uses_in qs = all_weaker (Used [] (first_uses [] qs)) (IsIn (first_uses [] qs)) qs only (all_used [] qs)
  where
    only : (q : List ℕ) → Used [] (first_uses [] qs) q → IsIn (first_uses [] qs) q
    only q (inl h) = absurd (cc h)
    only q (inr h) = h
