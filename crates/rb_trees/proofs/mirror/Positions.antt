-- The position of a tree is that of its mirror.
use Rattle.std.proofs.Common.{◌≡◌, ℕ, ap, ◌∙◌, refl}
use Rattle.rb_trees.specs.declared.code.TypeTree as type_tree
use Rattle.rb_trees.specs.declared.code.TypeForm.{TypeForm}
use Rattle.rb_trees.specs.declared.code.TypeForm.TheOpen.{TypeForm-F}
use Rattle.rb_trees.specs.declared.code.TypeForm.TheFolds.{fold_out-TypeForm}
use Rattle.rb_trees.specs.declared.code.Expr as tree
use Rattle.rb_trees.specs.declared.code.ExprForm.{ExprForm}
use Rattle.rb_trees.specs.declared.code.ExprForm.TheOpen.{ExprForm-F}
use Rattle.rb_trees.specs.declared.code.ExprForm.TheFolds.{fold_out-ExprForm}
use Rattle.rb_trees.specs.mirror.Types.{TypeTree, form_step, tree_step, mirror_type, mirror_type_form, type_at}
use Rattle.rb_trees.specs.mirror.Code.{Expr, expr_form_step, expr_step, mirror_expr, mirror_expr_form, expr_at}
use Rattle.rb_trees.proofs.mirror.Types.{at_TypeTree}
use Rattle.rb_trees.proofs.mirror.Exprs.{at_Expr}

type_layer_at : (layer : TypeForm-F (ℕ → TypeTree) TypeTree) (at : ℕ) → type_at (form_step layer at) ≡ at
type_layer_at TypeForm-F.Int at = refl
type_layer_at TypeForm-F.Bool at = refl
type_layer_at TypeForm-F.Text at = refl
type_layer_at TypeForm-F.Unit at = refl
type_layer_at (TypeForm-F.Named name) at = refl
type_layer_at (TypeForm-F.ListOf item) at = refl
type_layer_at (TypeForm-F.RowsOf row) at = refl

type_form_at : (f : TypeForm) (at : ℕ) → type_at (mirror_type_form f at) ≡ at
unfolding mirror_type_form
type_form_at f at = ap (λ g. type_at (g at)) (fold_out-TypeForm (ℕ → TypeTree) TypeTree form_step tree_step f) ∙ type_layer_at _ at

pub type_at_tree : (t : type_tree.TypeTree) → type_at (mirror_type t) ≡ t.at
type_at_tree t = ap type_at (at_TypeTree t) ∙ type_form_at t.form t.at

expr_layer_at : (layer : ExprForm-F (ℕ → Expr) Expr) (at : ℕ) → expr_at (expr_form_step layer at) ≡ at
expr_layer_at (ExprForm-F.Lit value) at = refl
expr_layer_at (ExprForm-F.Name name) at = refl
expr_layer_at ExprForm-F.This at = refl
expr_layer_at (ExprForm-F.Unary op a) at = refl
expr_layer_at (ExprForm-F.Binary op a b) at = refl
expr_layer_at (ExprForm-F.Field a name) at = refl
expr_layer_at (ExprForm-F.Call a method args) at = refl
expr_layer_at (ExprForm-F.Index a b) at = refl
expr_layer_at (ExprForm-F.New class args) at = refl
expr_layer_at (ExprForm-F.Items item items) at = refl
expr_layer_at (ExprForm-F.Taken step) at = refl

expr_form_at : (f : ExprForm) (at : ℕ) → expr_at (mirror_expr_form f at) ≡ at
unfolding mirror_expr_form
expr_form_at f at = ap (λ g. expr_at (g at)) (fold_out-ExprForm (ℕ → Expr) Expr expr_form_step expr_step f) ∙ expr_layer_at _ at

pub expr_at_tree : (e : tree.Expr) → expr_at (mirror_expr e) ≡ e.at
expr_at_tree e = ap expr_at (at_Expr e) ∙ expr_form_at e.form e.at

pub ruleset positions = (type_at_tree, expr_at_tree)
