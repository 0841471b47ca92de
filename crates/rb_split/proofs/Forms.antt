-- What the mirror of a statement of a known form is, with its parts as the code reads them.
use Rattle.std.proofs.Common.{◌≡◌, ℕ, List, ap, ◌∙◌}
use Rattle.rb_trees.specs.declared.code.Expr as expr
use Rattle.rb_trees.specs.declared.code.Stmt as stmt
use Rattle.rb_trees.specs.declared.code.StmtForm.TheVariants as form
use Rattle.rb_trees.specs.mirror.Code as code
use Rattle.rb_trees.specs.mirror.Code.{mirror_expr, mirror_stmt, mirror_stmt_form, mirror_stmts}
use Rattle.rb_trees.proofs.mirror.Stmts as stmts

pub val_form : (t : stmt.Stmt) {n : List ℕ} {e : expr.Expr} → t.form ≡ form.Val n e → mirror_stmt t ≡ code.Val t.at n (mirror_expr e)
val_form t {n = n} {e = e} is = stmts.at_Stmt t ∙ ap (λ f. mirror_stmt_form f t.at) is ∙ stmts.form_Val n e t.at

pub var_form : (t : stmt.Stmt) {n : List ℕ} {e : expr.Expr} → t.form ≡ form.Var n e → mirror_stmt t ≡ code.Var t.at n (mirror_expr e)
var_form t {n = n} {e = e} is = stmts.at_Stmt t ∙ ap (λ f. mirror_stmt_form f t.at) is ∙ stmts.form_Var n e t.at

pub assign_form : (t : stmt.Stmt) {a b : expr.Expr} → t.form ≡ form.Assign a b → mirror_stmt t ≡ code.Assign t.at (mirror_expr a) (mirror_expr b)
assign_form t {a = a} {b = b} is = stmts.at_Stmt t ∙ ap (λ f. mirror_stmt_form f t.at) is ∙ stmts.form_Assign a b t.at

pub run_form : (t : stmt.Stmt) {e : expr.Expr} → t.form ≡ form.Run e → mirror_stmt t ≡ code.Run t.at (mirror_expr e)
run_form t {e = e} is = stmts.at_Stmt t ∙ ap (λ f. mirror_stmt_form f t.at) is ∙ stmts.form_Run e t.at

pub print_form : (t : stmt.Stmt) {e : expr.Expr} → t.form ≡ form.Print e → mirror_stmt t ≡ code.Print t.at (mirror_expr e)
print_form t {e = e} is = stmts.at_Stmt t ∙ ap (λ f. mirror_stmt_form f t.at) is ∙ stmts.form_Print e t.at

pub throw_form : (t : stmt.Stmt) {e : expr.Expr} → t.form ≡ form.Throw e → mirror_stmt t ≡ code.Throw t.at (mirror_expr e)
throw_form t {e = e} is = stmts.at_Stmt t ∙ ap (λ f. mirror_stmt_form f t.at) is ∙ stmts.form_Throw e t.at

pub if_form : (t : stmt.Stmt) {c : expr.Expr} (a b : List stmt.Stmt) → t.form ≡ form.If c a b → mirror_stmt t ≡ code.If t.at (mirror_expr c) (mirror_stmts a) (mirror_stmts b)
if_form t {c = c} a b is = stmts.at_Stmt t ∙ ap (λ f. mirror_stmt_form f t.at) is ∙ stmts.form_If c a b t.at

pub while_form : (t : stmt.Stmt) {c : expr.Expr} (a : List stmt.Stmt) → t.form ≡ form.While c a → mirror_stmt t ≡ code.While t.at (mirror_expr c) (mirror_stmts a)
while_form t {c = c} a is = stmts.at_Stmt t ∙ ap (λ f. mirror_stmt_form f t.at) is ∙ stmts.form_While c a t.at

pub for_form : (t : stmt.Stmt) {n : List ℕ} {e : expr.Expr} (a : List stmt.Stmt) → t.form ≡ form.For n e a → mirror_stmt t ≡ code.For t.at n (mirror_expr e) (mirror_stmts a)
for_form t {n = n} {e = e} a is = stmts.at_Stmt t ∙ ap (λ f. mirror_stmt_form f t.at) is ∙ stmts.form_For n e a t.at

pub try_form : (t : stmt.Stmt) (a : List stmt.Stmt) {n : List ℕ} (b : List stmt.Stmt) → t.form ≡ form.Try a n b → mirror_stmt t ≡ code.Try t.at (mirror_stmts a) n (mirror_stmts b)
try_form t a {n = n} b is = stmts.at_Stmt t ∙ ap (λ f. mirror_stmt_form f t.at) is ∙ stmts.form_Try a n b t.at

pub batch_form : (t : stmt.Stmt) {i n : List ℕ} (a : List stmt.Stmt) → t.form ≡ form.Batch i n a → mirror_stmt t ≡ code.Batch t.at i n (mirror_stmts a)
batch_form t {i = i} {n = n} a is = stmts.at_Stmt t ∙ ap (λ f. mirror_stmt_form f t.at) is ∙ stmts.form_Batch i n a t.at
