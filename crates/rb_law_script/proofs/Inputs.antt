-- What a script begins with: its root, and its inputs with their values.
use Rattle.std.proofs.Common.{◌≡◌, ◌<◌, inl, inr, refl, sym, ap, ◌∙◌, subst, arith, ℕ, suc, ◌+◌, List, [], ◌∷◌, ◌++◌, Bool, true, false, cond, Some, None, slice_get}
use Rattle.std.specs.Str.{bytes_eq}
use Rattle.std.specs.List.{Contains}
use Rattle.rb_trees.specs.Named.{lookup}
use Rattle.rb_trees.specs.declared.values.Value.{Value}
use Rattle.rb_trees.specs.declared.values.Value.TheVariants as value
use Rattle.rb_meaning_types.specs.Names.{is_new}
use Rattle.rb_meaning_code.specs.State.{Names, this_name}
use Rattle.rb_meaning_code.specs.ScriptRun.{Ground}
use Rattle.rb_meaning_split.specs.Refs.{Ref, Root, Input, Var}
use Rattle.rb_meaning_split.specs.Inputs.{first_uses}
use Rattle.rb_meaning_split.specs.Division.{numbered, first_refs}
use Rattle.rb_meaning_split.specs.Client.{value_or_unit, input_values}
use Rattle.rb_flow.proofs.Members.{none_contained, first_contained, more_contained, contained_cases}
use Rattle.rb_law_script.proofs.Lookups.{same_bytes, bytes_same, first_or, lookup_more, lookup_old, lookup_new}
use Rattle.rb_law_script.proofs.Linked.{ref_value, IsRead, Linked, Fresh, IsInputRef}

apart_names : (a b : List ℕ) → bytes_eq a b ≡ false → bytes_eq b a ≡ false
apart_names a b h = by (bytes_eq b a) refl
  where
    by : (t : Bool) → bytes_eq b a ≡ t → t ≡ false
    by true e = absurd (cc (h, bytes_same a b (sym (same_bytes b a e))))
    by false e = refl

-- each name that is used is one of an input
pub input_found : (n : ℕ) (before xs : List (List ℕ)) (y : List ℕ) → Contains xs y → is_new y before ≡ true → IsInputRef (lookup (numbered n (first_uses before xs)) y)
input_found n before [] y c new = absurd (none_contained y c)
input_found n before (x ∷ xs) y c new = by (is_new x before) refl (λ more other. input_found (suc n) (x ∷ before) xs y more other) (λ more. input_found n before xs y more new)
  where
    hit : (t : Bool) → bytes_eq x y ≡ t → (Contains xs y → is_new y (x ∷ before) ≡ true → IsInputRef (lookup (numbered (suc n) (first_uses (x ∷ before) xs)) y))
        → IsInputRef (first_or t (Input n) (lookup (numbered (suc n) (first_uses (x ∷ before) xs)) y))
    hit true e rest = tt
    hit false e rest = elim (contained_cases x xs y c) [
      | inl same ↦ absurd (cc (e, bytes_same x y same))
      | inr more ↦ rest more (ap (λ t. cond t false (is_new y before)) e ∙ new)
    ]

    by : (t : Bool) → is_new x before ≡ t → (Contains xs y → is_new y (x ∷ before) ≡ true → IsInputRef (lookup (numbered (suc n) (first_uses (x ∷ before) xs)) y)) → (Contains xs y → IsInputRef (lookup (numbered n (first_uses before xs)) y))
        → IsInputRef (lookup (numbered n (cond t (x ∷ first_uses (x ∷ before) xs) (first_uses before xs))) y)
    by true e rest others = subst IsInputRef (sym (lookup_more x (Input n) (numbered (suc n) (first_uses (x ∷ before) xs)) y)) (hit (bytes_eq x y) refl rest)
    by false e rest others = elim (contained_cases x xs y c) [
      | inl same ↦ absurd (cc (e, new, same))
      | inr more ↦ others more
    ]

-- and those of inputs are used
pub input_used : (before xs : List (List ℕ)) (y : List ℕ) → Contains (first_uses before xs) y → Contains xs y
input_used before [] y c = c
input_used before (x ∷ xs) y c = by (is_new x before) (λ k. input_used (x ∷ before) xs y k) (λ k. input_used before xs y k) c
  where
    by : (t : Bool) → (Contains (first_uses (x ∷ before) xs) y → Contains xs y) → (Contains (first_uses before xs) y → Contains xs y) → Contains (cond t (x ∷ first_uses (x ∷ before) xs) (first_uses before xs)) y → Contains (x ∷ xs) y
    by true first second k = elim (contained_cases x (first_uses (x ∷ before) xs) y k) [
      | inl same ↦ subst (Contains (x ∷ xs)) same (first_contained x xs)
      | inr more ↦ more_contained x xs y (first more)
    ]
    by false first second k = more_contained x xs y (second k)

-- an input, with the place of its value
pub record IsInput (all : List Value) (names : Names) (xs : List (List ℕ)) (y : List ℕ) (r : Ref) : Type 0 where
  pub number : ℕ
  pub is : r ≡ Input number
  pub value : slice_get all number ≡ Some (value_or_unit (lookup names y))
  pub among : Contains xs y

place_more : (n k : ℕ) → suc n + k ≡ n + suc k
place_more n k = omega arith

from_none : (n : ℕ) → 0 + n ≡ n
from_none n = omega arith

place_none : (n : ℕ) → n + 0 ≡ n
place_none n = omega arith

pub input_read : (all : List Value) (names : Names) (xs : List (List ℕ)) (n : ℕ) (y : List ℕ) (r : Ref) → ((k : ℕ) → slice_get all (n + k) ≡ slice_get (input_values xs names) k) → lookup (numbered n xs) y ≡ Some r → IsInput all names xs y r
input_read all names [] n y r at h = absurd (cc (h))
input_read all names (x ∷ xs) n y r at h = by (bytes_eq x y) refl (sym (lookup_more x (Input n) (numbered (suc n) xs) y) ∙ h) (input_read all names xs (suc n) y r (λ j. ap (slice_get all) (place_more n j) ∙ at (suc j)))
  where
    by : (t : Bool) → bytes_eq x y ≡ t → first_or t (Input n) (lookup (numbered (suc n) xs) y) ≡ Some r → (lookup (numbered (suc n) xs) y ≡ Some r → IsInput all names xs y r) → IsInput all names (x ∷ xs) y r
    by true e k rest =
        let same : x ≡ y = same_bytes x y e in
        record {
          number = n;
          is = cc (k);
          value = ap (slice_get all) (sym (place_none n)) ∙ at 0 ∙ ap (λ z. Some (value_or_unit (lookup names z))) same;
          among = subst (Contains (x ∷ xs)) same (first_contained x xs);
        }
    by false e k rest = let more = rest k in record { number = more.number; is = more.is; value = more.value; among = more_contained x xs y more.among }

-- no input is a variable of the script's own
pub fresh_first : (root : List ℕ) (xs : List (List ℕ)) → Fresh 0 (first_refs root xs)
fresh_first root xs y number h = by (bytes_eq root y) (sym (lookup_more root Root (numbered 0 xs) y) ∙ h)
  where
    by : (t : Bool) → first_or t Root (lookup (numbered 0 xs) y) ≡ Some (Var number) → number < 0
    by true e = absurd (cc (e))
    by false e = let it = input_read (input_values xs []) [] xs 0 y (Var number) (λ k. ap (slice_get (input_values xs [])) (from_none k)) e in absurd (cc (it.is))

-- the script's variables at its start
pub linked_first : (g : Ground) (root : List ℕ) (xs : List (List ℕ)) (names : Names) → g.inputs ≡ input_values xs names → (bytes_eq this_name root ≡ false → lookup names root ≡ None)
    → ((y : List ℕ) → bytes_eq this_name y ≡ false → Contains xs y → (v : Value) × (lookup names y ≡ Some v))
    → Linked g (first_refs root xs) [] (names ++ (root, value.Remote g.root) ∷ [])
linked_first g root xs names inputs free each y plain r h = by (bytes_eq root y) refl (sym (lookup_more root Root (numbered 0 xs) y) ∙ h)
  where
    bound : Names
    bound = names ++ (root, value.Remote g.root) ∷ []

    by : (t : Bool) → bytes_eq root y ≡ t → first_or t Root (lookup (numbered 0 xs) y) ≡ Some r → IsRead g [] bound y r
    by true e k =
        let same : root ≡ y = same_bytes root y e in
        let absent : lookup names y ≡ None = subst (λ z. lookup names z ≡ None) same (free (subst (λ z. bytes_eq this_name z ≡ false) (sym same) plain)) in
        let is : Root ≡ r = cc (k) in
        record {
          value = value.Remote g.root;
          reads = subst (λ q. ref_value g [] q ≡ Some (value.Remote g.root)) is refl;
          holds = lookup_new names y root (value.Remote g.root) absent ∙ ap (λ t. first_or t (value.Remote g.root) None) e;
        }
    by false e k =
        let it = input_read g.inputs names xs 0 y r (λ j. ap (slice_get g.inputs) (from_none j) ∙ ap (λ vs. slice_get vs j) inputs) k in
        let found = each y plain it.among in
        record {
          value = found.0;
          reads = subst (λ q. ref_value g [] q ≡ Some found.0) (sym it.is) (it.value ∙ ap (λ o. Some (value_or_unit o)) found.1);
          holds = lookup_old names y root (value.Remote g.root) found.0 found.1;
        }
