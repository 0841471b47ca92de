-- Objects of running code: new ones, and their fields.
use Rattle.std.specs.Prelude.{ℕ, List, [], ◌∷◌, ◌++◌, length, nat_eq, nat_lt, Result, Ok, Err}
use Rattle.rb_trees.specs.Classes.{class_named}
use Rattle.rb_trees.specs.Limits.{most_objects}
use Rattle.rb_trees.specs.Objects.{field_value, with_field_value}
use Rattle.rb_trees.specs.Outcome.{known, must, ◌>>=◌, ◌>>◌}
use Rattle.rb_trees.specs.declared.values.Value.{Value}
use Rattle.rb_trees.specs.declared.values.Value.TheOpen.{Value-F}
use Rattle.rb_trees.specs.declared.values.Value.TheVariants as value
use Rattle.rb_trees.specs.declared.values.Fault.{Fault}
use Rattle.rb_trees.specs.declared.services.Object.{Object}
use Rattle.rb_trees.specs.mirror.Declarations.{Class, Param}
use Rattle.rb_meaning_code.specs.Faults.{heap_full, kind}
use Rattle.rb_meaning_code.specs.State.{Names}

-- names of parameters or fields with values, in order, as long as both last
abbrev pub matched : List Param → List Value → Names
matched [] values = []
matched (p ∷ ps) [] = []
matched (p ∷ ps) (v ∷ vs) = (p.name, v) ∷ matched ps vs

-- an object with values for its fields, in order of declaration, of which there are as many
abbrev pub object_with : List ℕ → List Param → List Value → Result Object Fault
object_with name fields values = must (nat_eq (length fields) (length values)) kind >> Ok (record { class = name; fields = matched fields values })

-- an object of a class, which has to be there
abbrev pub object_of : List Class → List ℕ → List Value → Result Object Fault
object_of classes name values = known kind (class_named classes name) >>= λ c. object_with name c.fields values

-- An object at the end of the heap, which needs room: its number, and the heap then.
abbrev pub placed : List Object → Object → Result (Value × List Object) Fault
placed heap o = must (nat_lt (length heap) most_objects) heap_full >> Ok (value.Ref (length heap), heap ++ o ∷ [])

-- a new object, and the heap with it
abbrev pub constructed : List Class → List Object → List ℕ → List Value → Result (Value × List Object) Fault
constructed classes heap name values = object_of classes name values >>= λ o. placed heap o

-- a field of an object, which has to be there
abbrev pub field_of : List Object → Value-F Value → List ℕ → Result Value Fault
field_of heap (Value-F.Ref object) name = known kind (field_value heap object name)
field_of heap _ name = Err kind

-- the heap where a field, which has to be there, has another value
abbrev pub with_own_field : List Object → ℕ → List ℕ → Value → Result (List Object) Fault
with_own_field heap object name v = known kind (field_value heap object name) >>= λ old. Ok (with_field_value heap object name v)

abbrev pub with_field_of : List Object → Value-F Value → List ℕ → Value → Result (List Object) Fault
with_field_of heap (Value-F.Ref object) name v = with_own_field heap object name v
with_field_of heap _ name v = Err kind
