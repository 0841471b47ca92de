-- Changes of a table by others: a field of an object gets a value, where the object has the field, and its old value and the new
-- one are primitive and of one kind. Any other change is skipped.
use Rattle.std.specs.Prelude.{List, [], ◌∷◌, Bool, true, false, cond, Option, None, Some}
use Rattle.rb_trees.specs.Objects.{field_value, with_field_value}
use Rattle.rb_trees.specs.declared.services.Change.{Change}
use Rattle.rb_trees.specs.declared.services.Object.{Object}
use Rattle.rb_trees.specs.declared.values.Value.{Value, out-Value}
use Rattle.rb_trees.specs.declared.values.Value.TheOpen.{Value-F}
use Rattle.rb_meaning_types.specs.Values.{IsInt, IsText}

-- whether two values are primitive and of one kind
abbrev pub are_alike : Value-F Value → Value-F Value → Bool
are_alike (Value-F.Int old) (Value-F.Int new) = true
are_alike (Value-F.Bool old) (Value-F.Bool new) = true
are_alike (Value-F.Text old) (Value-F.Text new) = true
are_alike old new = false

-- the table after a change, by the field's old value, if there is one
abbrev pub changed_from : Option Value → Change → List Object → List Object
changed_from None c table = table
changed_from (Some old) c table =
    cond (are_alike (out-Value old) (out-Value c.value)) (with_field_value table c.object c.field c.value) table

-- the table after a change
abbrev pub changed : Change → List Object → List Object
changed c table = changed_from (field_value table c.object c.field) c table

-- the table after changes, in order
abbrev pub all_changed : List Change → List Object → List Object
all_changed [] table = table
all_changed (c ∷ cs) table = all_changed cs (changed c table)

-- A primitive value is within its bounds.
abbrev pub IsBounded : Value-F Value → Type 0
IsBounded (Value-F.Int number) = IsInt number
IsBounded (Value-F.Text text) = IsText text
IsBounded _ = Unit {0}

-- Each change has a value that is within its bounds.
abbrev pub AreBounded : List Change → Type 0
AreBounded [] = Unit {0}
AreBounded (c ∷ cs) = IsBounded (out-Value c.value) × AreBounded cs

-- so of lists of changes
abbrev pub AllBounded : List (List Change) → Type 0
AllBounded [] = Unit {0}
AllBounded (cs ∷ more) = AreBounded cs × AllBounded more
