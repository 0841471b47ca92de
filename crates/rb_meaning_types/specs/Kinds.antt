-- Types without positions, and when two of them are the same.
use Rattle.std.specs.Prelude.{ℕ, List, Bool as Truth, true, false}
use Rattle.std.specs.Str.{bytes_eq}
use Rattle.rb_trees.specs.mirror.Types as tree
use Rattle.rb_trees.specs.declared.code.TypeForm.{TypeForm}

-- a type: where its text stands counts for nothing
pub data Kind : Type 0 where
  Int : Kind
  Bool : Kind
  Text : Kind
  Unit : Kind
  Named : (name : List ℕ) → Kind
  ListOf : (item : Kind) → Kind
  RowsOf : (row : Kind) → Kind

-- the type that a written type stands for
abbrev pub kind_of : tree.TypeTree → Kind
kind_of (tree.Int at) = Int
kind_of (tree.Bool at) = Bool
kind_of (tree.Text at) = Text
kind_of (tree.Unit at) = Unit
kind_of (tree.Named at name) = Named name
kind_of (tree.ListOf at item) = ListOf (kind_of item)
kind_of (tree.RowsOf at row) = RowsOf (kind_of row)

-- the type of a form, at whatever position it stands
unfoldable pub kind_of_form : TypeForm → Kind
kind_of_form form = kind_of (tree.mirror_type_form form 0)

abbrev pub is_int : Kind → Truth
is_int Int = true
is_int _ = false

abbrev pub is_bool : Kind → Truth
is_bool Bool = true
is_bool _ = false

abbrev pub is_text : Kind → Truth
is_text Text = true
is_text _ = false

abbrev pub is_unit : Kind → Truth
is_unit Unit = true
is_unit _ = false

abbrev pub is_list : Kind → Truth
is_list (ListOf item) = true
is_list _ = false

-- Int, Bool and Text are the primitive types
abbrev pub is_primitive : Kind → Truth
is_primitive Int = true
is_primitive Bool = true
is_primitive Text = true
is_primitive _ = false

abbrev pub is_named : List ℕ → Kind → Truth
is_named name (Named other) = bytes_eq name other
is_named name _ = false

-- whether two types are the same; two names are one type where they are the same bytes
abbrev pub same_kind : Kind → Kind → Truth
same_kind Int b = is_int b
same_kind Bool b = is_bool b
same_kind Text b = is_text b
same_kind Unit b = is_unit b
same_kind (Named name) b = is_named name b
same_kind (ListOf item) (ListOf other) = same_kind item other
same_kind (ListOf item) _ = false
same_kind (RowsOf row) (RowsOf other) = same_kind row other
same_kind (RowsOf row) _ = false
