-- The equations that the collection of batches stands on.
use Rattle.std.proofs.Common.{◌≡◌, ℕ, List, take, length}
use Rattle.std.proofs.lemmas.List.{map-append}
use Rattle.rb_trees.specs.mirror.Code.{Stmt, Val, Var, Assign, Run, Print, Throw, If, While, For, Try, Batch}
use Rattle.rb_trees.proofs.mirror.Stmts.{stmts}
use Rattle.rb_meaning_types.proofs.TypeForms.{kinds}
use Rattle.rb_trees.proofs.mirror.Positions.{expr_at_tree}
use Rattle.rb_meaning_flow.specs.declared.scopes.Role.{Role}
use Rattle.rb_meaning_flow.specs.Facts.{Facts}
use Rattle.rb_meaning_flow.specs.Scopes.{Scope, with_variable, variable_with, scope_with}
use Rattle.rb_meaning_flow.specs.Outermost.{outer_after}
use Rattle.rb_flow.proofs.Fronts.{take_front, take_whole, take_kept}
use Rattle.rb_flow.proofs.Trees.{stmt_at_tree}
use Rattle.std.proofs.lemmas.Grind.{common_steps}

-- a statement outside batches leaves the scope as it was, but for what it adds
pub kept_outer : (x : Facts) (scope : Scope) (s : Stmt) → take (length scope) (outer_after x scope s) ≡ scope
kept_outer x scope (Val at name e) = take_front scope _
kept_outer x scope (Var at name e) = take_front scope _
kept_outer x scope (Assign at a b) = take_whole scope
kept_outer x scope (Run at e) = take_whole scope
kept_outer x scope (Print at e) = take_whole scope
kept_outer x scope (Throw at e) = take_whole scope
kept_outer x scope (If at c a b) = take_whole scope
kept_outer x scope (While at c a) = take_whole scope
kept_outer x scope (For at name e a) = take_whole scope
kept_outer x scope (Try at a name b) = take_whole scope
kept_outer x scope (Batch at interface root a) = take_whole scope

-- the root of a batch isn't constant
pub root_added : (assigned : List (List ℕ)) (scope : Scope) (root : List ℕ) (at : ℕ)
    → scope_with assigned (with_variable scope root Role.Root at) ≡ with_variable (scope_with assigned scope) root Role.Root at
root_added assigned scope root at = map-append (variable_with assigned) scope _

pub ruleset outer_rules = (stmts, kinds, expr_at_tree, stmt_at_tree, take_front, kept_outer, take_kept, root_added, map-append, common_steps)
