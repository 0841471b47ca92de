-- The equations that walks over statements stand on, and where a statement stands.
use Rattle.std.proofs.Common.{◌≡◌, ℕ, ap, ◌∙◌, refl}
use Rattle.rb_trees.specs.declared.code.Stmt as stmt_tree
use Rattle.rb_trees.specs.declared.code.StmtForm.{StmtForm}
use Rattle.rb_trees.specs.declared.code.StmtForm.TheOpen.{StmtForm-F}
use Rattle.rb_trees.specs.declared.code.StmtForm.TheFolds.{fold_out-StmtForm}
use Rattle.rb_trees.specs.mirror.Code.{Stmt, stmt_form_step, stmt_step, mirror_stmt, mirror_stmt_form, stmt_at}
use Rattle.rb_trees.proofs.mirror.Stmts.{at_Stmt, stmts}
use Rattle.rb_trees.proofs.mirror.Positions.{expr_at_tree}
use Rattle.std.proofs.lemmas.Grind.{common_steps}

stmt_layer_at : (layer : StmtForm-F (ℕ → Stmt) Stmt) (at : ℕ) → stmt_at (stmt_form_step layer at) ≡ at
stmt_layer_at (StmtForm-F.Val name e) at = refl
stmt_layer_at (StmtForm-F.Var name e) at = refl
stmt_layer_at (StmtForm-F.Assign a b) at = refl
stmt_layer_at (StmtForm-F.Run e) at = refl
stmt_layer_at (StmtForm-F.Print e) at = refl
stmt_layer_at (StmtForm-F.Throw e) at = refl
stmt_layer_at (StmtForm-F.If e a b) at = refl
stmt_layer_at (StmtForm-F.While e a) at = refl
stmt_layer_at (StmtForm-F.For name e a) at = refl
stmt_layer_at (StmtForm-F.Try a name b) at = refl
stmt_layer_at (StmtForm-F.Batch interface root a) at = refl

stmt_form_at : (f : StmtForm) (at : ℕ) → stmt_at (mirror_stmt_form f at) ≡ at
unfolding mirror_stmt_form
stmt_form_at f at = ap (λ g. stmt_at (g at)) (fold_out-StmtForm (ℕ → Stmt) Stmt stmt_form_step stmt_step f) ∙ stmt_layer_at _ at

-- the position of a statement is that of its mirror
pub stmt_at_tree : (s : stmt_tree.Stmt) → stmt_at (mirror_stmt s) ≡ s.at
stmt_at_tree s = ap stmt_at (at_Stmt s) ∙ stmt_form_at s.form s.at

pub ruleset stmt_rules = (stmts, stmt_at_tree, expr_at_tree, common_steps)
