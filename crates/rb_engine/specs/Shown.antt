-- What is read of a value or a fault by its form.
use Rattle.std.specs.Prelude.{ℕ, ◌-◌, List, Bool, true, false, Result, slice_get}
use Rattle.rb_trees.specs.Outcome.{known}
use Rattle.rb_trees.specs.declared.values.Value.{Value}
use Rattle.rb_trees.specs.declared.values.Value.TheOpen.{Value-F}
use Rattle.rb_trees.specs.declared.values.Fault.{Fault}
use Rattle.rb_meaning_code.specs.Faults.{kind, fault_names, name_or_nothing}
use Rattle.rb_meaning_code.specs.Operators.{shown_value}

abbrev pub remote_form : Value-F Value → Bool
remote_form (Value-F.Remote object) = true
remote_form _ = false

-- the line that `print` shows
abbrev pub shown_or_kind : Value-F Value → Result (List ℕ) Fault
shown_or_kind v = known kind (shown_value v)

abbrev pub name_of_code : ℕ → List ℕ
name_of_code code = name_or_nothing (slice_get fault_names (code - 1))
