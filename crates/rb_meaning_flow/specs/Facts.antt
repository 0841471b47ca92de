-- What the types of a program tell of its expressions, by their positions.
use Rattle.std.specs.Prelude.{ℕ, List, Bool, true, false, Option, Some, None, Ok, Err}
use Rattle.rb_trees.specs.mirror.Code.{Expr, expr_at}
use Rattle.rb_trees.specs.mirror.Declarations.{Method, Class, Program}
use Rattle.rb_meaning_types.specs.Kinds.{Kind, Named, ListOf, RowsOf, is_primitive}
use Rattle.rb_meaning_types.specs.Names.{class_named, method_named}
use Rattle.rb_meaning_types.specs.Violations.{Checked}
use Rattle.rb_meaning_types.specs.Declared.{Declarations, of_program, is_interface}
use Rattle.rb_meaning_types.specs.Notes.{type_at}

pub record Facts : Type 0 where
  -- whether the expression at a position is an Int, a Bool or a Text
  pub primitive : ℕ → Bool
  -- whether it is a list or rows of such
  pub items : ℕ → Bool
  -- whether it is a list of lists of such
  pub lists : ℕ → Bool
  -- whether it is an object of the service
  pub object : ℕ → Bool
  -- whether it is rows
  pub rows : ℕ → Bool
  -- whether it is an object of the own side whose method of the name is `remote`
  pub remote_method : ℕ → List ℕ → Bool

-- a call is remote where its receiver is an object of the service
abbrev pub is_remote : Facts → Expr → Bool
is_remote x receiver = x.object (expr_at receiver)

-- a loop is over rows where what it goes over is rows
abbrev pub over_rows : Facts → Expr → Bool
over_rows x list = x.rows (expr_at list)

-- an object of the service has the type of an interface
abbrev pub is_object : Declarations → Kind → Bool
is_object d (Named name) = is_interface d name
is_object d _ = false

abbrev pub is_rows : Kind → Bool
is_rows (RowsOf row) = true
is_rows _ = false

abbrev pub has_primitive_items : Kind → Bool
has_primitive_items (ListOf item) = is_primitive item
has_primitive_items (RowsOf row) = is_primitive row
has_primitive_items _ = false

abbrev pub is_remote_method : Option Method → Bool
is_remote_method (Some m) = m.remote
is_remote_method None = false

abbrev pub class_has_remote : List ℕ → Option Class → Bool
class_has_remote method (Some class) = is_remote_method (method_named class.methods method)
class_has_remote method None = false

-- whether the class of a type has a `remote` method of the name
abbrev pub has_remote_method : Declarations → List ℕ → Kind → Bool
has_remote_method d method (Named name) = class_has_remote method (class_named d.classes name)
has_remote_method d method _ = false

abbrev pub has_list_items : Kind → Bool
has_list_items (ListOf (ListOf item)) = is_primitive item
has_list_items _ = false

-- whether there is a type, of which this holds
abbrev pub kind_is : (Kind → Bool) → Option (Checked Kind) → Bool
kind_is is (Some (Ok kind)) = is kind
kind_is is (Some (Err violation)) = false
kind_is is None = false

-- the facts of a program
unfoldable pub facts_of : Program → Facts
facts_of p = record {
  primitive = λ at. kind_is is_primitive (type_at p at);
  items = λ at. kind_is has_primitive_items (type_at p at);
  lists = λ at. kind_is has_list_items (type_at p at);
  object = λ at. kind_is (is_object (of_program p)) (type_at p at);
  rows = λ at. kind_is is_rows (type_at p at);
  remote_method = λ at method. kind_is (has_remote_method (of_program p) method) (type_at p at);
}
