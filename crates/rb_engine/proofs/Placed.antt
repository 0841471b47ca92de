-- What stands at the first place of a name.
use Rattle.std.proofs.Common.{◌≡◌, ℕ, suc, zero, ◌+◌, ◌<◌, List, [], ◌∷◌, take, get_or, length, Bool, true, false, cond, Option, Some, None, refl, ap, ◌∙◌, sym, subst, arith}
use Rattle.std.specs.Prelude.{slice_get, slice_set}
use Rattle.std.specs.Option.{option_map}
use Rattle.std.specs.Str.{bytes_eq}
use Rattle.rb_trees.specs.declared.values.Value.{Value}
use Rattle.rb_trees.specs.Named.{first_named, lookup, replaced}
use Rattle.rb_engine.specs.Places.{first_place}

-- the field at a place, if there is one
abbrev pub field_at : List (List ℕ × Value) → Option ℕ → Option (List ℕ × Value)
field_at fs None = None
field_at fs (Some place) = slice_get fs place

placed_step : (b : Bool) (o : Option ℕ) (f : List ℕ × Value) (fs : List (List ℕ × Value)) (r : Option (List ℕ × Value)) → r ≡ field_at fs o
    → cond b (Some f) r ≡ field_at (f ∷ fs) (cond b (Some 0) (option_map suc o))
placed_step true o f fs r e = refl
placed_step false None f fs r e = e
placed_step false (Some p) f fs r e = e

named_placed : (fs : List (List ℕ × Value)) (name : List ℕ) → first_named (λ n. n.0) fs name ≡ field_at fs (first_place fs name)
named_placed [] name = refl
named_placed (f ∷ fs) name = placed_step (bytes_eq f.0 name) (first_place fs name) f fs (first_named (λ n. n.0) fs name) (named_placed fs name)

-- the value of a name stands at its first place
pub lookup_placed : (fs : List (List ℕ × Value)) (name : List ℕ) → lookup fs name ≡ option_map (λ n. n.1) (field_at fs (first_place fs name))
lookup_placed fs name = ap (option_map (λ n. n.1)) (named_placed fs name)

-- the fields with another value in a field
abbrev pub set_at : List (List ℕ × Value) → Value → Option ℕ → Option (List ℕ × Value) → List (List ℕ × Value)
set_at fs value (Some place) (Some f) = slice_set fs place (f.0, value)
set_at fs value _ _ = fs

set_step : (b : Bool) (o : Option ℕ) (f : List ℕ × Value) (fs : List (List ℕ × Value)) (value : Value) (r : List (List ℕ × Value)) → r ≡ set_at fs value o (field_at fs o)
    → cond b ((f.0, value) ∷ fs) (f ∷ r) ≡ set_at (f ∷ fs) value (cond b (Some 0) (option_map suc o)) (field_at (f ∷ fs) (cond b (Some 0) (option_map suc o)))
set_step true o f fs value r e = refl
set_step false None f fs value r e = ap (λ r. f ∷ r) e
set_step false (Some p) f fs value r e = ap (λ r. f ∷ r) e ∙ set_more f fs p value (slice_get fs p)
  where
    set_more : (f : List ℕ × Value) (fs : List (List ℕ × Value)) (p : ℕ) (value : Value) (o : Option (List ℕ × Value)) → f ∷ set_at fs value (Some p) o ≡ set_at (f ∷ fs) value (Some (suc p)) o
    set_more f fs p value None = refl
    set_more f fs p value (Some g) = refl

-- so it does where the first of the name has another value
pub replaced_placed : (fs : List (List ℕ × Value)) (name : List ℕ) (value : Value)
    → replaced fs name value ≡ set_at fs value (first_place fs name) (field_at fs (first_place fs name))
replaced_placed [] name value = refl
replaced_placed (f ∷ fs) name value = set_step (bytes_eq f.0 name) (first_place fs name) f fs value (replaced fs name value) (replaced_placed fs name value)

-- a name that stands at a place, and nowhere before
none_step : (b : Bool) (o : Option ℕ) → cond b (Some 0) (option_map suc o) ≡ None → (b ≡ false) × (o ≡ None)
none_step true o e = cc
none_step false None e = (refl, refl)
none_step false (Some p) e = cc

pub place_found : (fs : List (List ℕ × Value)) (name : List ℕ) (i : ℕ) (f : List ℕ × Value) → i < length fs → f ≡ get_or fs i f → bytes_eq f.0 name ≡ true
    → first_place (take i fs) name ≡ None → first_place fs name ≡ Some i
place_found [] name i f l e b h = absurd (omega arith)
place_found (g ∷ fs) name zero f l e b h = ap (λ x. cond (bytes_eq x.0 name) (Some 0) (option_map suc (first_place fs name))) (sym e) ∙ ap (λ c. cond c (Some 0) (option_map suc (first_place fs name))) b
place_found (g ∷ fs) name (suc i) f l e b h =
    let before = none_step (bytes_eq g.0 name) (first_place (take i fs) name) h in
    let inside : i < length fs = omega arith in
    ap (λ c. cond c (Some 0) (option_map suc (first_place fs name))) before.0 ∙ ap (option_map suc) (place_found fs name i f inside e b before.1)

-- one that doesn't
passed : (fs : List (List ℕ × Value)) (name : List ℕ) (i : ℕ) (f : List ℕ × Value) → i < length fs → f ≡ get_or fs i f → bytes_eq f.0 name ≡ false
    → first_place (take i fs) name ≡ None → first_place (take (suc i) fs) name ≡ None
passed [] name i f l e b h = absurd (omega arith)
passed (g ∷ fs) name zero f l e b h = ap (λ x. cond (bytes_eq x.0 name) (Some 0) None) (sym e) ∙ ap (λ c. cond c (Some 0) None) b
passed (g ∷ fs) name (suc i) f l e b h =
    let before = none_step (bytes_eq g.0 name) (first_place (take i fs) name) h in
    let inside : i < length fs = omega arith in
    ap (λ c. cond c (Some 0) (option_map suc (first_place (take (suc i) fs) name))) before.0 ∙ ap (option_map suc) (passed fs name i f inside e b before.1)

pub place_passed : (fs : List (List ℕ × Value)) (name : List ℕ) (i : ℕ) (f : List ℕ × Value) → i < length fs → f ≡ get_or fs i f → bytes_eq f.0 name ≡ false
    → first_place (take i fs) name ≡ None → first_place (take (i + 1) fs) name ≡ None
place_passed fs name i f l e b h = let next : suc i ≡ i + 1 = omega arith in subst (λ n. first_place (take n fs) name ≡ None) next (passed fs name i f l e b h)
