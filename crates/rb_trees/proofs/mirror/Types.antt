-- What the mirror of each form of a type is.
use Rattle.std.proofs.Common.{◌≡◌, ℕ, List, ap, sym, ◌∙◌}
use Rattle.rb_trees.specs.declared.code.TypeTree as tree
use Rattle.rb_trees.specs.declared.code.TypeForm.TheVariants as form
use Rattle.rb_trees.specs.declared.code.TypeForm.TheOpen.{TypeForm-F}
use Rattle.rb_trees.specs.declared.code.TypeForm.TheFolds.{fold_out-TypeTree, fold-roll-TypeForm}
use Rattle.rb_trees.specs.mirror.Types.{TypeTree, Int, Bool, Text, Unit, Named, ListOf, RowsOf, form_step, tree_step, mirror_type, mirror_type_form}

pub at_TypeTree : (t : tree.TypeTree) → mirror_type t ≡ mirror_type_form t.form t.at
unfolding mirror_type mirror_type_form
at_TypeTree t = fold_out-TypeTree (ℕ → TypeTree) TypeTree form_step tree_step t

pub form_Int : (at : ℕ) → mirror_type_form form.Int at ≡ Int at
unfolding mirror_type_form
form_Int at = ap (λ f. mirror_type_form f at) (sym form.rolls-Int) ∙ ap (λ f. f at) (fold-roll-TypeForm (ℕ → TypeTree) TypeTree form_step tree_step TypeForm-F.Int)

pub form_Bool : (at : ℕ) → mirror_type_form form.Bool at ≡ Bool at
unfolding mirror_type_form
form_Bool at = ap (λ f. mirror_type_form f at) (sym form.rolls-Bool) ∙ ap (λ f. f at) (fold-roll-TypeForm (ℕ → TypeTree) TypeTree form_step tree_step TypeForm-F.Bool)

pub form_Text : (at : ℕ) → mirror_type_form form.Text at ≡ Text at
unfolding mirror_type_form
form_Text at = ap (λ f. mirror_type_form f at) (sym form.rolls-Text) ∙ ap (λ f. f at) (fold-roll-TypeForm (ℕ → TypeTree) TypeTree form_step tree_step TypeForm-F.Text)

pub form_Unit : (at : ℕ) → mirror_type_form form.Unit at ≡ Unit at
unfolding mirror_type_form
form_Unit at = ap (λ f. mirror_type_form f at) (sym form.rolls-Unit) ∙ ap (λ f. f at) (fold-roll-TypeForm (ℕ → TypeTree) TypeTree form_step tree_step TypeForm-F.Unit)

pub form_Named : (name : List ℕ) (at : ℕ) → mirror_type_form (form.Named name) at ≡ Named at name
unfolding mirror_type_form
form_Named name at = ap (λ f. mirror_type_form f at) (sym (form.rolls-Named name)) ∙ ap (λ f. f at) (fold-roll-TypeForm (ℕ → TypeTree) TypeTree form_step tree_step (TypeForm-F.Named name))

pub form_ListOf : (item : tree.TypeTree) (at : ℕ) → mirror_type_form (form.ListOf item) at ≡ ListOf at (mirror_type item)
unfolding mirror_type_form mirror_type
form_ListOf item at = ap (λ f. mirror_type_form f at) (sym (form.rolls-ListOf item)) ∙ ap (λ f. f at) (fold-roll-TypeForm (ℕ → TypeTree) TypeTree form_step tree_step (TypeForm-F.ListOf item))

pub form_RowsOf : (row : tree.TypeTree) (at : ℕ) → mirror_type_form (form.RowsOf row) at ≡ RowsOf at (mirror_type row)
unfolding mirror_type_form mirror_type
form_RowsOf row at = ap (λ f. mirror_type_form f at) (sym (form.rolls-RowsOf row)) ∙ ap (λ f. f at) (fold-roll-TypeForm (ℕ → TypeTree) TypeTree form_step tree_step (TypeForm-F.RowsOf row))

pub ruleset types = (at_TypeTree, form_Int, form_Bool, form_Text, form_Unit, form_Named, form_ListOf, form_RowsOf)
