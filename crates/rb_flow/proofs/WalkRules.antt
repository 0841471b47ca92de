-- The equations that the walk through expressions and statements stands on.
use Rattle.std.proofs.Common.{◌≡◌, length, take, refl}
use Rattle.rb_trees.specs.mirror.Code.{Expr, Lit, Name, This, Unary, Binary, Field, Call, Index, New, Items, Taken, Stmt, Val, Var, Assign, Run, Print, Throw, If, While, For, Try, Batch}
use Rattle.rb_trees.proofs.mirror.Exprs.{exprs}
use Rattle.rb_trees.proofs.mirror.Stmts.{stmts}
use Rattle.rb_trees.proofs.mirror.Positions.{expr_at_tree}
use Rattle.rb_meaning_flow.specs.Facts.{Facts}
use Rattle.rb_meaning_flow.specs.Scopes.{Scope}
use Rattle.rb_flow.specs.declared.standing.Reading.{Reading}
use Rattle.rb_flow.specs.declared.standing.Standing.{Standing}
use Rattle.rb_flow.specs.declared.standing.Inside.{Inside}
use Rattle.rb_flow.specs.declared.findings.Findings.{Findings}
use Rattle.rb_flow.specs.Walked.{expr_seen, expr_walked, parts_walked, stmt_seen, stmt_walked, within_walked, scope_then}
use Rattle.rb_flow.proofs.Fronts.{take_front, take_whole, take_kept}
use Rattle.rb_flow.proofs.Trees.{stmt_at_tree}
use Rattle.std.proofs.lemmas.Grind.{common_steps}

-- an expression is seen, and then its parts
pub walked_parts : (x : Facts) (scope : Scope) (around : Reading) (inside : Inside) (f : Findings) (e : Expr)
    → expr_walked x scope around inside f e ≡ parts_walked x scope around inside (expr_seen x scope around inside f e) e
walked_parts x scope around inside f (Lit at value) = refl
walked_parts x scope around inside f (Name at name) = refl
walked_parts x scope around inside f (This at) = refl
walked_parts x scope around inside f (Unary at op a) = refl
walked_parts x scope around inside f (Binary at op a b) = refl
walked_parts x scope around inside f (Field at a name) = refl
walked_parts x scope around inside f (Call at a method args) = refl
walked_parts x scope around inside f (Index at a b) = refl
walked_parts x scope around inside f (New at class args) = refl
walked_parts x scope around inside f (Items at item items) = refl
walked_parts x scope around inside f (Taken at step) = refl

-- a statement is seen, and then its expressions and blocks
pub walked_within : (x : Facts) (standing : Standing) (scope : Scope) (f : Findings) (s : Stmt)
    → stmt_walked x standing scope f s ≡ within_walked x standing scope (stmt_seen x standing scope f s) s
walked_within x standing scope f (Val at name e) = refl
walked_within x standing scope f (Var at name e) = refl
walked_within x standing scope f (Assign at a b) = refl
walked_within x standing scope f (Run at e) = refl
walked_within x standing scope f (Print at e) = refl
walked_within x standing scope f (Throw at e) = refl
walked_within x standing scope f (If at c a b) = refl
walked_within x standing scope f (While at c a) = refl
walked_within x standing scope f (For at name e a) = refl
walked_within x standing scope f (Try at a name b) = refl
walked_within x standing scope f (Batch at interface root a) = refl

-- a statement leaves the scope as it was, but for what it adds
pub kept_then : (x : Facts) (standing : Standing) (scope : Scope) (s : Stmt) → take (length scope) (scope_then x standing scope s) ≡ scope
kept_then x standing scope (Val at name e) = take_front scope _
kept_then x standing scope (Var at name e) = take_front scope _
kept_then x standing scope (Assign at a b) = take_whole scope
kept_then x standing scope (Run at e) = take_whole scope
kept_then x standing scope (Print at e) = take_whole scope
kept_then x standing scope (Throw at e) = take_whole scope
kept_then x standing scope (If at c a b) = take_whole scope
kept_then x standing scope (While at c a) = take_whole scope
kept_then x standing scope (For at name e a) = take_whole scope
kept_then x standing scope (Try at a name b) = take_whole scope
kept_then x standing scope (Batch at interface root a) = take_whole scope

pub ruleset walk_rules = (exprs, expr_at_tree, walked_parts, common_steps)

pub ruleset walk_stmt_rules = (stmts, expr_at_tree, stmt_at_tree, walked_within, take_front, kept_then, take_kept, common_steps)
