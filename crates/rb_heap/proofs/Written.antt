-- What a write into an object makes of the heap.
use Rattle.std.proofs.Common.{◌≡◌, ℕ, suc, zero, List, [], ◌∷◌, Option, Some, None, Result, Ok, Err, refl, ap, ◌∙◌, sym, subst}
use Rattle.std.specs.Prelude.{slice_get, slice_set, IsSome, option_and_then}
use Rattle.rb_trees.specs.declared.values.Value.{Value}
use Rattle.rb_trees.specs.declared.services.Object.{Object}
use Rattle.rb_trees.specs.Named.{lookup}
use Rattle.rb_trees.specs.Objects.{with_object, option_with_field}
use Rattle.rb_heap.specs.declared.stops.SetStop.{SetStop}
use Rattle.rb_heap.specs.declared.stops.SetStop.TheVariants.{Missing, Memory}
use Rattle.rb_heap.specs.Writes.{SetsField, SetsNamed}

-- an object that is put back where it stands
put_back : {A : Type 0} (xs : List A) (n : ℕ) (x : A) → slice_get xs n ≡ Some x → slice_set xs n x ≡ xs
put_back [] n x e = refl
put_back (y ∷ xs) zero x e = let same : x ≡ y = cc in ap (λ z. z ∷ xs) same
put_back (y ∷ xs) (suc n) x e = ap (λ zs. y ∷ zs) (put_back xs n x e)

abbrev pub value_in : Option Object → List ℕ → Option Value
value_in o name = option_and_then (λ o. lookup o.fields name) o

-- an object of the heap with other fields
pub object_written : (heap : List Object) (n : ℕ) (name : List ℕ) (value : Value) (o : Object) (fields : List (List ℕ × Value)) (r : Result (Unit {0}) SetStop) → slice_get heap n ≡ Some o
    → SetsNamed o.fields name value r fields → SetsField heap n name value r (slice_set heap n (record o { fields = fields }))
object_written heap n name value o fields (Ok u) e w =
    (subst (λ x. IsSome (value_in x name)) (sym e) w.0, ap (λ fs. slice_set heap n (record o { fields = fs })) w.1 ∙ ap (λ x. with_object heap n (option_with_field x name value)) (sym e))
object_written heap n name value o fields (Err (Missing back)) e w =
    (ap (λ x. value_in x name) e ∙ w.0, w.1, ap (λ fs. slice_set heap n (record o { fields = fs })) w.2 ∙ put_back heap n o e)
object_written heap n name value o fields (Err Memory) e w =
    (subst (λ x. IsSome (value_in x name)) (sym e) w.0, ap (λ fs. slice_set heap n (record o { fields = fs })) w.1 ∙ put_back heap n o e)

-- there is no such object
pub object_missing : (heap : List Object) (n : ℕ) (name : List ℕ) (value : Value) → slice_get heap n ≡ None → SetsField heap n name value (Err (Missing value)) heap
object_missing heap n name value e = (ap (λ x. value_in x name) e, refl, refl)
