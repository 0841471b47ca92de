-- The equations that the walk through script places stands on.
use Rattle.std.proofs.Common.{◌≡◌, length, take}
use Rattle.rb_trees.specs.mirror.Code.{Stmt, Val, Var, Assign, Run, Print, Throw, If, While, For, Try, Batch}
use Rattle.rb_trees.proofs.mirror.Stmts.{stmts}
use Rattle.rb_trees.proofs.mirror.Positions.{expr_at_tree}
use Rattle.rb_meaning_flow.specs.Facts.{Facts}
use Rattle.rb_meaning_flow.specs.Scopes.{Scope}
use Rattle.rb_flow.specs.Carried.{scope_noted}
use Rattle.rb_flow.proofs.Fronts.{take_front, take_whole, take_kept}
use Rattle.rb_flow.proofs.Trees.{stmt_at_tree}
use Rattle.std.proofs.lemmas.Grind.{common_steps}

-- a statement leaves the scope as it was, but for what it adds
pub kept_noted : (x : Facts) (scope : Scope) (s : Stmt) → take (length scope) (scope_noted x scope s) ≡ scope
kept_noted x scope (Val at name e) = take_front scope _
kept_noted x scope (Var at name e) = take_front scope _
kept_noted x scope (Assign at a b) = take_whole scope
kept_noted x scope (Run at e) = take_whole scope
kept_noted x scope (Print at e) = take_whole scope
kept_noted x scope (Throw at e) = take_whole scope
kept_noted x scope (If at c a b) = take_whole scope
kept_noted x scope (While at c a) = take_whole scope
kept_noted x scope (For at name e a) = take_whole scope
kept_noted x scope (Try at a name b) = take_whole scope
kept_noted x scope (Batch at interface root a) = take_whole scope

pub ruleset loop_rules = (stmts, expr_at_tree, stmt_at_tree, take_front, kept_noted, take_kept, common_steps)
