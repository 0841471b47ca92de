-- Objects in a heap, each numbered by its place from 0.
use Rattle.std.specs.Prelude.{ℕ, List, Option, Some, None, option_and_then, slice_get, slice_set}
use Rattle.rb_trees.specs.Named.{lookup, replaced}
use Rattle.rb_trees.specs.declared.values.Value.{Value}
use Rattle.rb_trees.specs.declared.services.Object.{Object}

-- the value of an object's field, where there is such an object with such a field
abbrev pub field_value : List Object → ℕ → List ℕ → Option Value
field_value heap object name = option_and_then (λ o. lookup o.fields name) (slice_get heap object)

-- the object with another value in a field
abbrev pub with_field : Object → List ℕ → Value → Object
with_field o name value = record o { fields = replaced o.fields name value }

abbrev pub with_object : List Object → ℕ → Option Object → List Object
with_object heap object None = heap
with_object heap object (Some o) = slice_set heap object o

abbrev pub option_with_field : Option Object → List ℕ → Value → Option Object
option_with_field None name value = None
option_with_field (Some o) name value = Some (with_field o name value)

-- the heap with another value in an object's field
abbrev pub with_field_value : List Object → ℕ → List ℕ → Value → List Object
with_field_value heap object name value = with_object heap object (option_with_field (slice_get heap object) name value)
