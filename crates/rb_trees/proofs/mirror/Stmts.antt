-- What the mirror of each form of a statement is.
use Rattle.std.proofs.Common.{◌≡◌, ℕ, List, [], ◌∷◌, map, ap, sym, ◌∙◌, refl}
use Rattle.rb_trees.specs.declared.code.Expr as expr
use Rattle.rb_trees.specs.declared.code.Stmt as tree
use Rattle.rb_trees.specs.declared.code.StmtForm.TheVariants as form
use Rattle.rb_trees.specs.declared.code.StmtForm.TheOpen.{StmtForm-F}
use Rattle.rb_trees.specs.declared.code.StmtForm.TheFolds.{fold-Stmt, fold_out-Stmt, fold-roll-StmtForm}
use Rattle.rb_trees.specs.mirror.Code.{Stmt, Val, Var, Assign, Run, Print, Throw, If, While, For, Try, Batch, MoreStmts, stmts_from, stmt_form_step, stmt_step, mirror_stmt, mirror_stmt_form, mirror_stmts, mirror_expr}

pub at_Stmt : (t : tree.Stmt) → mirror_stmt t ≡ mirror_stmt_form t.form t.at
unfolding mirror_stmt mirror_stmt_form
at_Stmt t = fold_out-Stmt (ℕ → Stmt) Stmt stmt_form_step stmt_step t

pub stmts_lists : (ts : List tree.Stmt) → stmts_from (map (fold-Stmt (ℕ → Stmt) Stmt stmt_form_step stmt_step) ts) ≡ mirror_stmts ts
unfolding mirror_stmt
stmts_lists [] = refl
stmts_lists (t ∷ ts) = ap (MoreStmts (mirror_stmt t)) (stmts_lists ts)

pub form_Val : (name : List ℕ) (e : expr.Expr) (at : ℕ) → mirror_stmt_form (form.Val name e) at ≡ Val at name (mirror_expr e)
unfolding mirror_stmt_form
form_Val name e at = ap (λ f. mirror_stmt_form f at) (sym (form.rolls-Val name e)) ∙ ap (λ f. f at) (fold-roll-StmtForm (ℕ → Stmt) Stmt stmt_form_step stmt_step (StmtForm-F.Val name e))

pub form_Var : (name : List ℕ) (e : expr.Expr) (at : ℕ) → mirror_stmt_form (form.Var name e) at ≡ Var at name (mirror_expr e)
unfolding mirror_stmt_form
form_Var name e at = ap (λ f. mirror_stmt_form f at) (sym (form.rolls-Var name e)) ∙ ap (λ f. f at) (fold-roll-StmtForm (ℕ → Stmt) Stmt stmt_form_step stmt_step (StmtForm-F.Var name e))

pub form_Assign : (a : expr.Expr) (b : expr.Expr) (at : ℕ) → mirror_stmt_form (form.Assign a b) at ≡ Assign at (mirror_expr a) (mirror_expr b)
unfolding mirror_stmt_form
form_Assign a b at = ap (λ f. mirror_stmt_form f at) (sym (form.rolls-Assign a b)) ∙ ap (λ f. f at) (fold-roll-StmtForm (ℕ → Stmt) Stmt stmt_form_step stmt_step (StmtForm-F.Assign a b))

pub form_Run : (e : expr.Expr) (at : ℕ) → mirror_stmt_form (form.Run e) at ≡ Run at (mirror_expr e)
unfolding mirror_stmt_form
form_Run e at = ap (λ f. mirror_stmt_form f at) (sym (form.rolls-Run e)) ∙ ap (λ f. f at) (fold-roll-StmtForm (ℕ → Stmt) Stmt stmt_form_step stmt_step (StmtForm-F.Run e))

pub form_Print : (e : expr.Expr) (at : ℕ) → mirror_stmt_form (form.Print e) at ≡ Print at (mirror_expr e)
unfolding mirror_stmt_form
form_Print e at = ap (λ f. mirror_stmt_form f at) (sym (form.rolls-Print e)) ∙ ap (λ f. f at) (fold-roll-StmtForm (ℕ → Stmt) Stmt stmt_form_step stmt_step (StmtForm-F.Print e))

pub form_Throw : (e : expr.Expr) (at : ℕ) → mirror_stmt_form (form.Throw e) at ≡ Throw at (mirror_expr e)
unfolding mirror_stmt_form
form_Throw e at = ap (λ f. mirror_stmt_form f at) (sym (form.rolls-Throw e)) ∙ ap (λ f. f at) (fold-roll-StmtForm (ℕ → Stmt) Stmt stmt_form_step stmt_step (StmtForm-F.Throw e))

pub form_If : (e : expr.Expr) (a : List tree.Stmt) (b : List tree.Stmt) (at : ℕ) → mirror_stmt_form (form.If e a b) at ≡ If at (mirror_expr e) (mirror_stmts a) (mirror_stmts b)
unfolding mirror_stmt_form mirror_stmt
form_If e a b at = ap (λ f. mirror_stmt_form f at) (sym (form.rolls-If e a b)) ∙ ap (λ f. f at) (fold-roll-StmtForm (ℕ → Stmt) Stmt stmt_form_step stmt_step (StmtForm-F.If e a b)) ∙ ap (λ x. If at (mirror_expr e) x (stmts_from (map (fold-Stmt (ℕ → Stmt) Stmt stmt_form_step stmt_step) b))) (stmts_lists a) ∙ ap (λ x. If at (mirror_expr e) (mirror_stmts a) x) (stmts_lists b)

pub form_While : (e : expr.Expr) (a : List tree.Stmt) (at : ℕ) → mirror_stmt_form (form.While e a) at ≡ While at (mirror_expr e) (mirror_stmts a)
unfolding mirror_stmt_form mirror_stmt
form_While e a at = ap (λ f. mirror_stmt_form f at) (sym (form.rolls-While e a)) ∙ ap (λ f. f at) (fold-roll-StmtForm (ℕ → Stmt) Stmt stmt_form_step stmt_step (StmtForm-F.While e a)) ∙ ap (λ x. While at (mirror_expr e) x) (stmts_lists a)

pub form_For : (name : List ℕ) (e : expr.Expr) (a : List tree.Stmt) (at : ℕ) → mirror_stmt_form (form.For name e a) at ≡ For at name (mirror_expr e) (mirror_stmts a)
unfolding mirror_stmt_form mirror_stmt
form_For name e a at = ap (λ f. mirror_stmt_form f at) (sym (form.rolls-For name e a)) ∙ ap (λ f. f at) (fold-roll-StmtForm (ℕ → Stmt) Stmt stmt_form_step stmt_step (StmtForm-F.For name e a)) ∙ ap (λ x. For at name (mirror_expr e) x) (stmts_lists a)

pub form_Try : (a : List tree.Stmt) (name : List ℕ) (b : List tree.Stmt) (at : ℕ) → mirror_stmt_form (form.Try a name b) at ≡ Try at (mirror_stmts a) name (mirror_stmts b)
unfolding mirror_stmt_form mirror_stmt
form_Try a name b at = ap (λ f. mirror_stmt_form f at) (sym (form.rolls-Try a name b)) ∙ ap (λ f. f at) (fold-roll-StmtForm (ℕ → Stmt) Stmt stmt_form_step stmt_step (StmtForm-F.Try a name b)) ∙ ap (λ x. Try at x name (stmts_from (map (fold-Stmt (ℕ → Stmt) Stmt stmt_form_step stmt_step) b))) (stmts_lists a) ∙ ap (λ x. Try at (mirror_stmts a) name x) (stmts_lists b)

pub form_Batch : (interface : List ℕ) (root : List ℕ) (a : List tree.Stmt) (at : ℕ) → mirror_stmt_form (form.Batch interface root a) at ≡ Batch at interface root (mirror_stmts a)
unfolding mirror_stmt_form mirror_stmt
form_Batch interface root a at = ap (λ f. mirror_stmt_form f at) (sym (form.rolls-Batch interface root a)) ∙ ap (λ f. f at) (fold-roll-StmtForm (ℕ → Stmt) Stmt stmt_form_step stmt_step (StmtForm-F.Batch interface root a)) ∙ ap (λ x. Batch at interface root x) (stmts_lists a)

pub ruleset stmts = (at_Stmt, form_Val, form_Var, form_Assign, form_Run, form_Print, form_Throw, form_If, form_While, form_For, form_Try, form_Batch)
