-- What the mirror of each form of an expression is.
use Rattle.std.proofs.Common.{◌≡◌, ℕ, List, [], ◌∷◌, map, ap, sym, ◌∙◌, refl}
use Rattle.rb_trees.specs.declared.values.Value.{Value}
use Rattle.rb_trees.specs.declared.code.UnOp.{UnOp}
use Rattle.rb_trees.specs.declared.code.BinOp.{BinOp}
use Rattle.rb_trees.specs.declared.code.TypeTree as type_tree
use Rattle.rb_trees.specs.mirror.Types.{mirror_type}
use Rattle.rb_trees.specs.declared.code.Expr as tree
use Rattle.rb_trees.specs.declared.code.ExprForm.TheVariants as form
use Rattle.rb_trees.specs.declared.code.ExprForm.TheOpen.{ExprForm-F}
use Rattle.rb_trees.specs.declared.code.ExprForm.TheFolds.{fold-Expr, fold_out-Expr, fold-roll-ExprForm}
use Rattle.rb_trees.specs.mirror.Code.{Expr, Lit, Name, This, Unary, Binary, Field, Call, Index, New, Items, Taken, MoreExprs, exprs_from, expr_form_step, expr_step, mirror_expr, mirror_expr_form, mirror_exprs}

pub at_Expr : (t : tree.Expr) → mirror_expr t ≡ mirror_expr_form t.form t.at
unfolding mirror_expr mirror_expr_form
at_Expr t = fold_out-Expr (ℕ → Expr) Expr expr_form_step expr_step t

pub exprs_lists : (ts : List tree.Expr) → exprs_from (map (fold-Expr (ℕ → Expr) Expr expr_form_step expr_step) ts) ≡ mirror_exprs ts
unfolding mirror_expr
exprs_lists [] = refl
exprs_lists (t ∷ ts) = ap (MoreExprs (mirror_expr t)) (exprs_lists ts)

pub form_Lit : (value : Value) (at : ℕ) → mirror_expr_form (form.Lit value) at ≡ Lit at value
unfolding mirror_expr_form
form_Lit value at = ap (λ f. mirror_expr_form f at) (sym (form.rolls-Lit value)) ∙ ap (λ f. f at) (fold-roll-ExprForm (ℕ → Expr) Expr expr_form_step expr_step (ExprForm-F.Lit value))

pub form_Name : (name : List ℕ) (at : ℕ) → mirror_expr_form (form.Name name) at ≡ Name at name
unfolding mirror_expr_form
form_Name name at = ap (λ f. mirror_expr_form f at) (sym (form.rolls-Name name)) ∙ ap (λ f. f at) (fold-roll-ExprForm (ℕ → Expr) Expr expr_form_step expr_step (ExprForm-F.Name name))

pub form_This : (at : ℕ) → mirror_expr_form form.This at ≡ This at
unfolding mirror_expr_form
form_This at = ap (λ f. mirror_expr_form f at) (sym form.rolls-This) ∙ ap (λ f. f at) (fold-roll-ExprForm (ℕ → Expr) Expr expr_form_step expr_step ExprForm-F.This)

pub form_Unary : (op : UnOp) (a : tree.Expr) (at : ℕ) → mirror_expr_form (form.Unary op a) at ≡ Unary at op (mirror_expr a)
unfolding mirror_expr_form mirror_expr
form_Unary op a at = ap (λ f. mirror_expr_form f at) (sym (form.rolls-Unary op a)) ∙ ap (λ f. f at) (fold-roll-ExprForm (ℕ → Expr) Expr expr_form_step expr_step (ExprForm-F.Unary op a))

pub form_Binary : (op : BinOp) (a : tree.Expr) (b : tree.Expr) (at : ℕ) → mirror_expr_form (form.Binary op a b) at ≡ Binary at op (mirror_expr a) (mirror_expr b)
unfolding mirror_expr_form mirror_expr
form_Binary op a b at = ap (λ f. mirror_expr_form f at) (sym (form.rolls-Binary op a b)) ∙ ap (λ f. f at) (fold-roll-ExprForm (ℕ → Expr) Expr expr_form_step expr_step (ExprForm-F.Binary op a b))

pub form_Field : (a : tree.Expr) (name : List ℕ) (at : ℕ) → mirror_expr_form (form.Field a name) at ≡ Field at (mirror_expr a) name
unfolding mirror_expr_form mirror_expr
form_Field a name at = ap (λ f. mirror_expr_form f at) (sym (form.rolls-Field a name)) ∙ ap (λ f. f at) (fold-roll-ExprForm (ℕ → Expr) Expr expr_form_step expr_step (ExprForm-F.Field a name))

pub form_Call : (a : tree.Expr) (method : List ℕ) (args : List tree.Expr) (at : ℕ) → mirror_expr_form (form.Call a method args) at ≡ Call at (mirror_expr a) method (mirror_exprs args)
unfolding mirror_expr_form mirror_expr
form_Call a method args at = ap (λ f. mirror_expr_form f at) (sym (form.rolls-Call a method args)) ∙ ap (λ f. f at) (fold-roll-ExprForm (ℕ → Expr) Expr expr_form_step expr_step (ExprForm-F.Call a method args)) ∙ ap (λ x. Call at (mirror_expr a) method x) (exprs_lists args)

pub form_Index : (a : tree.Expr) (b : tree.Expr) (at : ℕ) → mirror_expr_form (form.Index a b) at ≡ Index at (mirror_expr a) (mirror_expr b)
unfolding mirror_expr_form mirror_expr
form_Index a b at = ap (λ f. mirror_expr_form f at) (sym (form.rolls-Index a b)) ∙ ap (λ f. f at) (fold-roll-ExprForm (ℕ → Expr) Expr expr_form_step expr_step (ExprForm-F.Index a b))

pub form_New : (class : List ℕ) (args : List tree.Expr) (at : ℕ) → mirror_expr_form (form.New class args) at ≡ New at class (mirror_exprs args)
unfolding mirror_expr_form mirror_expr
form_New class args at = ap (λ f. mirror_expr_form f at) (sym (form.rolls-New class args)) ∙ ap (λ f. f at) (fold-roll-ExprForm (ℕ → Expr) Expr expr_form_step expr_step (ExprForm-F.New class args)) ∙ ap (λ x. New at class x) (exprs_lists args)

pub form_Items : (item : type_tree.TypeTree) (items : List tree.Expr) (at : ℕ) → mirror_expr_form (form.Items item items) at ≡ Items at (mirror_type item) (mirror_exprs items)
unfolding mirror_expr_form mirror_expr
form_Items item items at = ap (λ f. mirror_expr_form f at) (sym (form.rolls-Items item items)) ∙ ap (λ f. f at) (fold-roll-ExprForm (ℕ → Expr) Expr expr_form_step expr_step (ExprForm-F.Items item items)) ∙ ap (λ x. Items at (mirror_type item) x) (exprs_lists items)

pub form_Taken : (step : ℕ) (at : ℕ) → mirror_expr_form (form.Taken step) at ≡ Taken at step
unfolding mirror_expr_form
form_Taken step at = ap (λ f. mirror_expr_form f at) (sym (form.rolls-Taken step)) ∙ ap (λ f. f at) (fold-roll-ExprForm (ℕ → Expr) Expr expr_form_step expr_step (ExprForm-F.Taken step))

pub ruleset exprs = (at_Expr, form_Lit, form_Name, form_This, form_Unary, form_Binary, form_Field, form_Call, form_Index, form_New, form_Items, form_Taken)
