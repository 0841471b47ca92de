-- What the mirror of an expression or statement of a known form is, with its parts as the code reads them.
use Rattle.std.proofs.Common.{◌≡◌, ℕ, List, ap, ◌∙◌, refl}
use Rattle.rb_trees.specs.declared.values.Value.{Value}
use Rattle.rb_trees.specs.declared.code.UnOp.{UnOp}
use Rattle.rb_trees.specs.declared.code.BinOp.{BinOp}
use Rattle.rb_trees.specs.declared.code.TypeTree as type_tree
use Rattle.rb_trees.specs.declared.code.Expr as expr
use Rattle.rb_trees.specs.declared.code.ExprForm.TheVariants as expr_form
use Rattle.rb_trees.specs.declared.code.Stmt as stmt
use Rattle.rb_trees.specs.declared.code.StmtForm.TheVariants as stmt_form
use Rattle.rb_trees.specs.mirror.Types.{mirror_type}
use Rattle.rb_trees.specs.mirror.Code as code
use Rattle.rb_trees.specs.declared.code.ExprForm.{ExprForm}
use Rattle.rb_trees.specs.declared.code.ExprForm.TheOpen.{ExprForm-F}
use Rattle.rb_trees.specs.declared.code.ExprForm.TheFolds.{fold_out-ExprForm}
use Rattle.rb_trees.specs.mirror.Code.{Expr, expr_at, expr_form_step, expr_step, mirror_expr, mirror_exprs, mirror_expr_form, mirror_stmt, mirror_stmts, mirror_stmt_form}
use Rattle.rb_trees.proofs.mirror.Exprs as exprs
use Rattle.rb_trees.proofs.mirror.Stmts as stmts

pub lit_form : (t : expr.Expr) {v : Value} → t.form ≡ expr_form.Lit v → mirror_expr t ≡ code.Lit t.at v
lit_form t {v = v} is = exprs.at_Expr t ∙ ap (λ f. mirror_expr_form f t.at) is ∙ exprs.form_Lit v t.at

pub name_form : (t : expr.Expr) {n : List ℕ} → t.form ≡ expr_form.Name n → mirror_expr t ≡ code.Name t.at n
name_form t {n = n} is = exprs.at_Expr t ∙ ap (λ f. mirror_expr_form f t.at) is ∙ exprs.form_Name n t.at

pub this_form : (t : expr.Expr) → t.form ≡ expr_form.This → mirror_expr t ≡ code.This t.at
this_form t is = exprs.at_Expr t ∙ ap (λ f. mirror_expr_form f t.at) is ∙ exprs.form_This t.at

pub unary_form : (t : expr.Expr) {op : UnOp} (a : expr.Expr) → t.form ≡ expr_form.Unary op a → mirror_expr t ≡ code.Unary t.at op (mirror_expr a)
unary_form t {op = op} a is = exprs.at_Expr t ∙ ap (λ f. mirror_expr_form f t.at) is ∙ exprs.form_Unary op a t.at

pub binary_form : (t : expr.Expr) {op : BinOp} (a : expr.Expr) (b : expr.Expr) → t.form ≡ expr_form.Binary op a b → mirror_expr t ≡ code.Binary t.at op (mirror_expr a) (mirror_expr b)
binary_form t {op = op} a b is = exprs.at_Expr t ∙ ap (λ f. mirror_expr_form f t.at) is ∙ exprs.form_Binary op a b t.at

pub field_form : (t : expr.Expr) (a : expr.Expr) {n : List ℕ} → t.form ≡ expr_form.Field a n → mirror_expr t ≡ code.Field t.at (mirror_expr a) n
field_form t a {n = n} is = exprs.at_Expr t ∙ ap (λ f. mirror_expr_form f t.at) is ∙ exprs.form_Field a n t.at

pub call_form : (t : expr.Expr) (a : expr.Expr) {n : List ℕ} (es : List expr.Expr) → t.form ≡ expr_form.Call a n es → mirror_expr t ≡ code.Call t.at (mirror_expr a) n (mirror_exprs es)
call_form t a {n = n} es is = exprs.at_Expr t ∙ ap (λ f. mirror_expr_form f t.at) is ∙ exprs.form_Call a n es t.at

pub index_form : (t : expr.Expr) (a : expr.Expr) (b : expr.Expr) → t.form ≡ expr_form.Index a b → mirror_expr t ≡ code.Index t.at (mirror_expr a) (mirror_expr b)
index_form t a b is = exprs.at_Expr t ∙ ap (λ f. mirror_expr_form f t.at) is ∙ exprs.form_Index a b t.at

pub new_form : (t : expr.Expr) {n : List ℕ} (es : List expr.Expr) → t.form ≡ expr_form.New n es → mirror_expr t ≡ code.New t.at n (mirror_exprs es)
new_form t {n = n} es is = exprs.at_Expr t ∙ ap (λ f. mirror_expr_form f t.at) is ∙ exprs.form_New n es t.at

pub items_form : (t : expr.Expr) (kind : type_tree.TypeTree) (es : List expr.Expr) → t.form ≡ expr_form.Items kind es → mirror_expr t ≡ code.Items t.at (mirror_type kind) (mirror_exprs es)
items_form t kind es is = exprs.at_Expr t ∙ ap (λ f. mirror_expr_form f t.at) is ∙ exprs.form_Items kind es t.at

pub taken_form : (t : expr.Expr) {i : ℕ} → t.form ≡ expr_form.Taken i → mirror_expr t ≡ code.Taken t.at i
taken_form t {i = i} is = exprs.at_Expr t ∙ ap (λ f. mirror_expr_form f t.at) is ∙ exprs.form_Taken i t.at

pub val_form : (t : stmt.Stmt) {n : List ℕ} {e : expr.Expr} → t.form ≡ stmt_form.Val n e → mirror_stmt t ≡ code.Val t.at n (mirror_expr e)
val_form t {n = n} {e = e} is = stmts.at_Stmt t ∙ ap (λ f. mirror_stmt_form f t.at) is ∙ stmts.form_Val n e t.at

pub var_form : (t : stmt.Stmt) {n : List ℕ} {e : expr.Expr} → t.form ≡ stmt_form.Var n e → mirror_stmt t ≡ code.Var t.at n (mirror_expr e)
var_form t {n = n} {e = e} is = stmts.at_Stmt t ∙ ap (λ f. mirror_stmt_form f t.at) is ∙ stmts.form_Var n e t.at

pub assign_form : (t : stmt.Stmt) (a : expr.Expr) (b : expr.Expr) → t.form ≡ stmt_form.Assign a b → mirror_stmt t ≡ code.Assign t.at (mirror_expr a) (mirror_expr b)
assign_form t a b is = stmts.at_Stmt t ∙ ap (λ f. mirror_stmt_form f t.at) is ∙ stmts.form_Assign a b t.at

pub run_form : (t : stmt.Stmt) {e : expr.Expr} → t.form ≡ stmt_form.Run e → mirror_stmt t ≡ code.Run t.at (mirror_expr e)
run_form t {e = e} is = stmts.at_Stmt t ∙ ap (λ f. mirror_stmt_form f t.at) is ∙ stmts.form_Run e t.at

pub print_form : (t : stmt.Stmt) {e : expr.Expr} → t.form ≡ stmt_form.Print e → mirror_stmt t ≡ code.Print t.at (mirror_expr e)
print_form t {e = e} is = stmts.at_Stmt t ∙ ap (λ f. mirror_stmt_form f t.at) is ∙ stmts.form_Print e t.at

pub throw_form : (t : stmt.Stmt) {e : expr.Expr} → t.form ≡ stmt_form.Throw e → mirror_stmt t ≡ code.Throw t.at (mirror_expr e)
throw_form t {e = e} is = stmts.at_Stmt t ∙ ap (λ f. mirror_stmt_form f t.at) is ∙ stmts.form_Throw e t.at

pub if_form : (t : stmt.Stmt) {c : expr.Expr} (ss : List stmt.Stmt) (ss2 : List stmt.Stmt) → t.form ≡ stmt_form.If c ss ss2 → mirror_stmt t ≡ code.If t.at (mirror_expr c) (mirror_stmts ss) (mirror_stmts ss2)
if_form t {c = c} ss ss2 is = stmts.at_Stmt t ∙ ap (λ f. mirror_stmt_form f t.at) is ∙ stmts.form_If c ss ss2 t.at

pub while_form : (t : stmt.Stmt) {c : expr.Expr} (ss : List stmt.Stmt) → t.form ≡ stmt_form.While c ss → mirror_stmt t ≡ code.While t.at (mirror_expr c) (mirror_stmts ss)
while_form t {c = c} ss is = stmts.at_Stmt t ∙ ap (λ f. mirror_stmt_form f t.at) is ∙ stmts.form_While c ss t.at

pub for_form : (t : stmt.Stmt) {n : List ℕ} {e : expr.Expr} (ss : List stmt.Stmt) → t.form ≡ stmt_form.For n e ss → mirror_stmt t ≡ code.For t.at n (mirror_expr e) (mirror_stmts ss)
for_form t {n = n} {e = e} ss is = stmts.at_Stmt t ∙ ap (λ f. mirror_stmt_form f t.at) is ∙ stmts.form_For n e ss t.at

pub try_form : (t : stmt.Stmt) (ss : List stmt.Stmt) {n : List ℕ} (ss2 : List stmt.Stmt) → t.form ≡ stmt_form.Try ss n ss2 → mirror_stmt t ≡ code.Try t.at (mirror_stmts ss) n (mirror_stmts ss2)
try_form t ss {n = n} ss2 is = stmts.at_Stmt t ∙ ap (λ f. mirror_stmt_form f t.at) is ∙ stmts.form_Try ss n ss2 t.at

pub batch_form : (t : stmt.Stmt) {i : List ℕ} {n : List ℕ} (ss : List stmt.Stmt) → t.form ≡ stmt_form.Batch i n ss → mirror_stmt t ≡ code.Batch t.at i n (mirror_stmts ss)
batch_form t {i = i} {n = n} ss is = stmts.at_Stmt t ∙ ap (λ f. mirror_stmt_form f t.at) is ∙ stmts.form_Batch i n ss t.at

-- the position of a tree is that of its mirror
expr_layer_at : (layer : ExprForm-F (ℕ → Expr) Expr) (at : ℕ) → expr_at (expr_form_step layer at) ≡ at
expr_layer_at (ExprForm-F.Lit value) at = refl
expr_layer_at (ExprForm-F.Name name) at = refl
expr_layer_at ExprForm-F.This at = refl
expr_layer_at (ExprForm-F.Unary op a) at = refl
expr_layer_at (ExprForm-F.Binary op a b) at = refl
expr_layer_at (ExprForm-F.Field a name) at = refl
expr_layer_at (ExprForm-F.Call a method args) at = refl
expr_layer_at (ExprForm-F.Index a b) at = refl
expr_layer_at (ExprForm-F.New class args) at = refl
expr_layer_at (ExprForm-F.Items item items) at = refl
expr_layer_at (ExprForm-F.Taken step) at = refl

expr_form_at : (f : ExprForm) (at : ℕ) → expr_at (mirror_expr_form f at) ≡ at
unfolding mirror_expr_form
expr_form_at f at = ap (λ g. expr_at (g at)) (fold_out-ExprForm (ℕ → Expr) Expr expr_form_step expr_step f) ∙ expr_layer_at _ at

pub place_at : (e : expr.Expr) → expr_at (mirror_expr e) ≡ e.at
place_at e = ap expr_at (exprs.at_Expr e) ∙ expr_form_at e.form e.at
