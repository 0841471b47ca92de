-- Writes into fields: what is answered, and what is left.
use Rattle.std.specs.Prelude.{◌≡◌, ℕ, List, Option, None, Result, Ok, Err, IsSome}
use Rattle.rb_trees.specs.Named.{lookup, replaced}
use Rattle.rb_trees.specs.Objects.{field_value, with_field_value}
use Rattle.rb_trees.specs.declared.values.Value.{Value}
use Rattle.rb_trees.specs.declared.services.Object.{Object}
use Rattle.rb_heap.specs.declared.stops.SetStop.{SetStop}
use Rattle.rb_heap.specs.declared.stops.SetStop.TheVariants.{Missing, Memory}

-- There is a value where it is written, and this is what the write makes; or there is none, and the value is handed back;
-- or there is one, and memory ran out. After an error nothing changed.
abbrev pub Writes : {S : Type 0} → Option Value → S → S → Value → Result (Unit {0}) SetStop → S → Type 0
Writes there before made value (Ok u) after = IsSome there × (after ≡ made)
Writes there before made value (Err (Missing back)) after = (there ≡ None) × (back ≡ value) × (after ≡ before)
Writes there before made value (Err Memory) after = IsSome there × (after ≡ before)

-- the write of the first value of a name
abbrev pub SetsNamed : List (List ℕ × Value) → List ℕ → Value → Result (Unit {0}) SetStop → List (List ℕ × Value) → Type 0
SetsNamed before name value result after = Writes (lookup before name) before (replaced before name value) value result after

-- the write of an object's field
abbrev pub SetsField : List Object → ℕ → List ℕ → Value → Result (Unit {0}) SetStop → List Object → Type 0
SetsField before object name value result after =
    Writes (field_value before object name) before (with_field_value before object name value) value result after
