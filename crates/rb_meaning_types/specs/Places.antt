-- Which types may stand at which place. Every name of a type is declared; then the type is judged
-- from the outside in.
use Rattle.std.specs.Prelude.{ℕ, Bool as Truth, true, false, cond, nat_eq, Ok, Err}
use Rattle.rb_trees.specs.mirror.Types.{TypeTree, Int, Bool, Text, Unit as UnitType, Named, ListOf, RowsOf, type_at}
use Rattle.rb_meaning_types.specs.Declared.{Declarations, is_interface, is_class, is_declared}
use Rattle.rb_meaning_types.specs.Violations.{Checked, UnknownName, TypeNotHere}
use Rattle.rb_trees.specs.Outcome.{◌>>◌, must}

-- the names in a type are those of interfaces and classes
abbrev pub declared_type : Declarations → TypeTree → Checked (Unit {0})
declared_type d (Int at) = Ok tt
declared_type d (Bool at) = Ok tt
declared_type d (Text at) = Ok tt
declared_type d (UnitType at) = Ok tt
declared_type d (Named at name) = must (is_declared d name) (UnknownName at)
declared_type d (ListOf at item) = declared_type d item
declared_type d (RowsOf at row) = declared_type d row

-- the type of a value of local code: primitive, a class, or a List of such
abbrev pub value_type : Declarations → TypeTree → Checked (Unit {0})
value_type d (Int at) = Ok tt
value_type d (Bool at) = Ok tt
value_type d (Text at) = Ok tt
value_type d (UnitType at) = Err (TypeNotHere at)
value_type d (Named at name) = must (is_class d name) (TypeNotHere at)
value_type d (ListOf at item) = value_type d item
value_type d (RowsOf at row) = Err (TypeNotHere at)

-- the result of a class's method: such a type or Unit
abbrev pub value_result : Declarations → TypeTree → Checked (Unit {0})
value_result d (UnitType at) = Ok tt
value_result d kind = value_type d kind

-- a type that goes to a remote object: primitive or an interface
abbrev pub is_remote_value : Declarations → TypeTree → Truth
is_remote_value d (Int at) = true
is_remote_value d (Bool at) = true
is_remote_value d (Text at) = true
is_remote_value d (UnitType at) = false
is_remote_value d (Named at name) = is_interface d name
is_remote_value d (ListOf at item) = false
is_remote_value d (RowsOf at row) = false

-- a type that comes from a remote object: such a type, Unit, or Rows of such a type
abbrev pub is_remote_result : Declarations → TypeTree → Truth
is_remote_result d (UnitType at) = true
is_remote_result d (RowsOf at row) = is_remote_value d row
is_remote_result d kind = is_remote_value d kind

-- the result of `main`: primitive or absent; an absent type is Unit at the position of `main`
abbrev pub is_main_result : ℕ → TypeTree → Truth
is_main_result main (Int at) = true
is_main_result main (Bool at) = true
is_main_result main (Text at) = true
is_main_result main (UnitType at) = nat_eq at main
is_main_result main (Named at name) = false
is_main_result main (ListOf at item) = false
is_main_result main (RowsOf at row) = false

-- the type of a field, of an item of a List, or of a parameter of a class's method
abbrev pub item_type : Declarations → TypeTree → Checked (Unit {0})
item_type d kind = declared_type d kind >> value_type d kind

-- the type of a parameter, of an interface's method or of a class's
abbrev pub parameter_type : Truth → Declarations → TypeTree → Checked (Unit {0})
parameter_type remote d kind = declared_type d kind
    >> cond remote (must (is_remote_value d kind) (TypeNotHere (type_at kind))) (value_type d kind)

-- the type of a result, of an interface's method or of a class's
abbrev pub result_type : Truth → Declarations → TypeTree → Checked (Unit {0})
result_type remote d kind = declared_type d kind
    >> cond remote (must (is_remote_result d kind) (TypeNotHere (type_at kind))) (value_result d kind)

abbrev pub main_type : Declarations → ℕ → TypeTree → Checked (Unit {0})
main_type d main kind = declared_type d kind
    >> must (is_main_result main kind) (TypeNotHere (type_at kind))
