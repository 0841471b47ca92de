-- Heaps only grow.
use Rattle.std.proofs.Common.{◌≡◌, refl, ap, ◌∙◌, subst, ℕ, zero, suc, List, [], ◌∷◌, ◌++◌, map, length}
use Rattle.std.specs.Prelude.{Bool, true, false, cond, Option, Some, None, option_map, Result, Ok, Err, nat_lt, slice_get, slice_set}
use Rattle.std.specs.Str.{bytes_eq}
use Rattle.rb_trees.specs.Named.{replaced}
use Rattle.rb_trees.specs.Limits.{most_objects}
use Rattle.rb_trees.specs.Objects.{field_value, with_field, with_object, option_with_field, with_field_value}
use Rattle.rb_trees.specs.Outcome.{known, must, ◌>>=◌, ◌>>◌}
use Rattle.rb_trees.specs.declared.values.Value.{Value}
use Rattle.rb_trees.specs.declared.values.Value.TheOpen.{Value-F}
use Rattle.rb_trees.specs.declared.values.Value.TheVariants as value
use Rattle.rb_trees.specs.declared.values.Fault.{Fault}
use Rattle.rb_trees.specs.declared.services.Object.{Object}
use Rattle.rb_trees.specs.mirror.Declarations.{Class}
use Rattle.rb_meaning_code.specs.Faults.{heap_full, kind}
use Rattle.rb_meaning_code.specs.Objects.{object_of, placed, constructed, with_field_of}
use Rattle.rb_meaning_code.specs.Laws.{form, Grows}

pub grows_same : (heap : List Object) → Grows heap heap
grows_same heap number o is = ap (option_map form) is

same_form : (o : Object) (found : Option Object) → option_map form found ≡ Some (form o) → (p : Object) × (found ≡ Some p) × (form p ≡ form o)
same_form o (Some p) is = (p, refl, cc (is))
same_form o None is = absurd (cc (is))

pub grows_on : (a b c : List Object) → Grows a b → Grows b c → Grows a c
grows_on a b c first second number o is =
    let p = same_form o (slice_get b number) (first number o is) in
    second number p.0 p.1 ∙ ap Some p.2

-- one object more, at the end
kept_before : (heap : List Object) (made : Object) (number : ℕ) (o : Object) → slice_get heap number ≡ Some o → slice_get (heap ++ made ∷ []) number ≡ Some o
kept_before [] made number o is = absurd (cc (is))
kept_before (p ∷ heap) made zero o is = is
kept_before (p ∷ heap) made (suc number) o is = kept_before heap made number o is

added_grows : (heap : List Object) (made : Object) → Grows heap (heap ++ made ∷ [])
added_grows heap made number o is = ap (option_map form) (kept_before heap made number o is)

-- another object of the same form in a place
set_grows : (heap : List Object) (place : ℕ) (old new : Object) → slice_get heap place ≡ Some old → form new ≡ form old → Grows heap (slice_set heap place new)
set_grows [] place old new there same number o is = absurd (cc (is))
set_grows (p ∷ heap) zero old new there same zero o is = ap Some (same ∙ cc (there, is))
set_grows (p ∷ heap) zero old new there same (suc number) o is = ap (option_map form) is
set_grows (p ∷ heap) (suc place) old new there same zero o is = ap (option_map form) is
set_grows (p ∷ heap) (suc place) old new there same (suc number) o is = set_grows heap place old new there same number o is

-- another value of a field leaves an object's form
first_replaced : (b : Bool) (n : List ℕ × Value) (ns rest : List (List ℕ × Value)) (v : Value) → map (λ f. f.0) rest ≡ map (λ f. f.0) ns
    → map (λ f. f.0) (cond b ((n.0, v) ∷ ns) (n ∷ rest)) ≡ n.0 ∷ map (λ f. f.0) ns
first_replaced true n ns rest v is = refl
first_replaced false n ns rest v is = ap (λ names. n.0 ∷ names) is

replaced_names : (fields : List (List ℕ × Value)) (name : List ℕ) (v : Value) → map (λ f. f.0) (replaced fields name v) ≡ map (λ f. f.0) fields
replaced_names [] name v = refl
replaced_names (n ∷ ns) name v = first_replaced (bytes_eq n.0 name) n ns (replaced ns name v) v (replaced_names ns name v)

field_grows : (heap : List Object) (place : ℕ) (name : List ℕ) (v : Value) (found : Option Object) → slice_get heap place ≡ found
    → Grows heap (with_object heap place (option_with_field found name v))
field_grows heap place name v (Some o) is = set_grows heap place o (with_field o name v) is (ap (λ names. (o.class, names)) (replaced_names o.fields name v))
field_grows heap place name v None is = grows_same heap

-- what the rules on objects give

where_known : (heap new : List Object) (object : ℕ) (name : List ℕ) (v : Value) (old : Option Value)
    → (known kind old >>= λ w. Ok (with_field_value heap object name v)) ≡ Ok new → Grows heap new
where_known heap new object name v (Some w) is =
    let same : with_field_value heap object name v ≡ new = cc (is) in
    subst (Grows heap) same (field_grows heap object name v (slice_get heap object) refl)
where_known heap new object name v None is = absurd (cc (is))

pub written_grows : (heap : List Object) (object : Value-F Value) (name : List ℕ) (v : Value) (new : List Object) → with_field_of heap object name v ≡ Ok new → Grows heap new
written_grows heap (Value-F.Ref object) name v new is = where_known heap new object name v (field_value heap object name) is
written_grows heap Value-F.Unit name v new is = absurd (cc (is))
written_grows heap _ name v new is = absurd (cc (is))

where_placed : (heap : List Object) (o : Object) (room : Bool) (made : Value × List Object)
    → (must room heap_full >> Ok (value.Ref (length heap), heap ++ o ∷ [])) ≡ Ok made → Grows heap made.1
where_placed heap o true made is =
    let same : (value.Ref (length heap), heap ++ o ∷ []) ≡ made = cc (is) in
    subst (λ m. Grows heap m.1) same (added_grows heap o)
where_placed heap o false made is = absurd (cc (is))

where_made : (heap : List Object) (found : Result Object Fault) (made : Value × List Object) → (found >>= λ o. placed heap o) ≡ Ok made → Grows heap made.1
where_made heap (Ok o) made is = where_placed heap o (nat_lt (length heap) most_objects) made is
where_made heap (Err fault) made is = absurd (cc (is))

pub constructed_grows : (classes : List Class) (heap : List Object) (name : List ℕ) (values : List Value) (made : Value × List Object)
    → constructed classes heap name values ≡ Ok made → Grows heap made.1
constructed_grows classes heap name values made is = where_made heap (object_of classes name values) made is
