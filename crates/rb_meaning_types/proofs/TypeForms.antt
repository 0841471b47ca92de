-- What the type of each form is, whatever positions stand in it.
use Rattle.std.proofs.Common.{◌≡◌, ℕ, List, ap, sym, ◌∙◌, refl}
use Rattle.rb_trees.specs.declared.code.TypeTree as tree
use Rattle.rb_trees.specs.declared.code.TypeForm.{TypeForm}
use Rattle.rb_trees.specs.declared.code.TypeForm.TheVariants as form
use Rattle.rb_trees.specs.declared.code.TypeForm.TheOpen.{TypeForm-F}
use Rattle.rb_trees.specs.declared.code.TypeForm.TheFolds.{fold_out-TypeForm}
use Rattle.rb_trees.specs.mirror.Types.{TypeTree, form_step, tree_step, mirror_type, mirror_type_form}
use Rattle.rb_trees.proofs.mirror.Types.{at_TypeTree, form_Int, form_Bool, form_Text, form_Unit, form_Named, form_ListOf, form_RowsOf}
use Rattle.rb_meaning_types.specs.Kinds.{Int, Bool, Text, Unit, Named, ListOf, RowsOf, kind_of, kind_of_form}

-- one layer of a form has the same type at any position
layer_kind : (layer : TypeForm-F (ℕ → TypeTree) TypeTree) (a b : ℕ) → kind_of (form_step layer a) ≡ kind_of (form_step layer b)
layer_kind TypeForm-F.Int a b = refl
layer_kind TypeForm-F.Bool a b = refl
layer_kind TypeForm-F.Text a b = refl
layer_kind TypeForm-F.Unit a b = refl
layer_kind (TypeForm-F.Named name) a b = refl
layer_kind (TypeForm-F.ListOf item) a b = refl
layer_kind (TypeForm-F.RowsOf row) a b = refl

pub kind_form : (f : TypeForm) (at : ℕ) → kind_of (mirror_type_form f at) ≡ kind_of_form f
unfolding mirror_type_form kind_of_form
kind_form f at = ap (λ g. kind_of (g at)) (fold_out-TypeForm (ℕ → TypeTree) TypeTree form_step tree_step f)
    ∙ layer_kind _ at 0 ∙ ap (λ g. kind_of (g 0)) (sym (fold_out-TypeForm (ℕ → TypeTree) TypeTree form_step tree_step f))

pub kind_tree : (t : tree.TypeTree) → kind_of (mirror_type t) ≡ kind_of_form t.form
kind_tree t = ap kind_of (at_TypeTree t) ∙ kind_form t.form t.at

pub kind_Int : kind_of_form form.Int ≡ Int
unfolding kind_of_form
kind_Int = ap kind_of (form_Int 0)

pub kind_Bool : kind_of_form form.Bool ≡ Bool
unfolding kind_of_form
kind_Bool = ap kind_of (form_Bool 0)

pub kind_Text : kind_of_form form.Text ≡ Text
unfolding kind_of_form
kind_Text = ap kind_of (form_Text 0)

pub kind_Unit : kind_of_form form.Unit ≡ Unit
unfolding kind_of_form
kind_Unit = ap kind_of (form_Unit 0)

pub kind_Named : (name : List ℕ) → kind_of_form (form.Named name) ≡ Named name
unfolding kind_of_form
kind_Named name = ap kind_of (form_Named name 0)

pub kind_ListOf : (item : tree.TypeTree) → kind_of_form (form.ListOf item) ≡ ListOf (kind_of_form item.form)
unfolding kind_of_form
kind_ListOf item = ap kind_of (form_ListOf item 0) ∙ ap ListOf (kind_tree item)

pub kind_RowsOf : (row : tree.TypeTree) → kind_of_form (form.RowsOf row) ≡ RowsOf (kind_of_form row.form)
unfolding kind_of_form
kind_RowsOf row = ap kind_of (form_RowsOf row 0) ∙ ap RowsOf (kind_tree row)

pub ruleset kinds = (kind_tree, kind_Int, kind_Bool, kind_Text, kind_Unit, kind_Named, kind_ListOf, kind_RowsOf)
