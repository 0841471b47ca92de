-- Which changes are taken, and what is left where not all of them could be applied.
use Rattle.std.specs.Prelude.{◌≡◌, ℕ, ◌≤◌, List, Bool, false, length, take, Option, None, Some}
use Rattle.rb_trees.specs.Objects.{field_value}
use Rattle.rb_trees.specs.declared.services.Change.{Change}
use Rattle.rb_trees.specs.declared.services.Object.{Object}
use Rattle.rb_trees.specs.declared.values.Value.{Value, out-Value}
use Rattle.rb_meaning.specs.Changes.{are_alike, all_changed}

-- whether a field's old value, if there is one, is like the new one
abbrev pub takes : Option Value → Change → Bool
takes None c = false
takes (Some old) c = are_alike (out-Value old) (out-Value c.value)

-- whether a change of the table isn't skipped
abbrev pub is_taken : Change → List Object → Bool
is_taken c table = takes (field_value table c.object c.field) c

-- Some of the first changes were applied, and no others.
abbrev pub AppliesFront : List Change → List Object → List Object → Type 0
AppliesFront changes before after = (count : ℕ) × (count ≤ length changes) × (after ≡ all_changed (take count changes) before)
