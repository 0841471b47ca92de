-- The mirror of types. Each form has its position first.
use Rattle.std.specs.Prelude.{ℕ, List}
use Rattle.rb_trees.specs.declared.code.TypeTree as tree
use Rattle.rb_trees.specs.declared.code.TypeForm as form
use Rattle.rb_trees.specs.declared.code.TypeForm.TheOpen.{TypeTree-F, TypeForm-F}
use Rattle.rb_trees.specs.declared.code.TypeForm.TheFolds.{fold-TypeTree, fold-TypeForm}

pub data TypeTree : Type 0 where
  Int : (at : ℕ) → TypeTree
  Bool : (at : ℕ) → TypeTree
  Text : (at : ℕ) → TypeTree
  Unit : (at : ℕ) → TypeTree
  Named : (at : ℕ) (name : List ℕ) → TypeTree
  ListOf : (at : ℕ) (item : TypeTree) → TypeTree
  RowsOf : (at : ℕ) (row : TypeTree) → TypeTree

abbrev pub form_step : TypeForm-F (ℕ → TypeTree) TypeTree → ℕ → TypeTree
form_step TypeForm-F.Int at = Int at
form_step TypeForm-F.Bool at = Bool at
form_step TypeForm-F.Text at = Text at
form_step TypeForm-F.Unit at = Unit at
form_step (TypeForm-F.Named name) at = Named at name
form_step (TypeForm-F.ListOf item) at = ListOf at item
form_step (TypeForm-F.RowsOf row) at = RowsOf at row

abbrev pub tree_step : TypeTree-F (ℕ → TypeTree) TypeTree → TypeTree
tree_step t = t.form t.at

-- a type in the mirror
unfoldable pub mirror_type : tree.TypeTree → TypeTree
mirror_type t = fold-TypeTree (ℕ → TypeTree) TypeTree form_step tree_step t

-- the type of this form at a position
unfoldable pub mirror_type_form : form.TypeForm → ℕ → TypeTree
mirror_type_form f at = fold-TypeForm (ℕ → TypeTree) TypeTree form_step tree_step f at

-- the position of a type
abbrev pub type_at : TypeTree → ℕ
type_at (Int at) = at
type_at (Bool at) = at
type_at (Text at) = at
type_at (Unit at) = at
type_at (Named at name) = at
type_at (ListOf at item) = at
type_at (RowsOf at row) = at
