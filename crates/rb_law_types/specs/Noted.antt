-- Code whose expressions have the types that are noted at their positions.
use Rattle.std.specs.Prelude.{◌≡◌, ℕ, Option, Some}
use Rattle.rb_trees.specs.mirror.Code.{Expr, Exprs, Lit, Name, This, Unary, Binary, Field, Call, Index, New, Items, Taken, NoExprs, MoreExprs, expr_at, Stmt, Stmts, Val, Var, Assign, Run, Print, Throw, If, While, For, Try, Batch, NoStmts, MoreStmts}
use Rattle.rb_meaning_types.specs.Kinds.{Kind}
use Rattle.rb_meaning_types.specs.Violations.{Checked}
use Rattle.rb_meaning_types.specs.Declared.{Context}
use Rattle.rb_meaning_types.specs.Scopes.{Scope}
use Rattle.rb_meaning_types.specs.Expressions.{type_of}
use Rattle.rb_meaning_types.specs.Statements.{placed, loop_scope, catch_scope, batch_scope, check_stmt}
use Rattle.rb_meaning_types.specs.Notes.{scope_or}
use Rattle.rb_trees.specs.Outcome.{◌>>=◌}

module _ (types : ℕ → Option (Checked Kind)) (x : Context) where
  -- what the judgement gives to an expression is noted at its position
  abbrev pub IsNotedHere : Scope → Expr → Type 0
  IsNotedHere scope e = types (expr_at e) ≡ Some (type_of x scope e)

  -- so it is of the expression and of all its parts
  abbrev mutual
    pub IsNotedExpr : Scope → Expr → Type 0
    IsNotedExpr scope (Lit at value) = IsNotedHere scope (Lit at value)
    IsNotedExpr scope (Name at name) = IsNotedHere scope (Name at name)
    IsNotedExpr scope (This at) = IsNotedHere scope (This at)
    IsNotedExpr scope (Unary at op a) = IsNotedHere scope (Unary at op a) × IsNotedExpr scope a
    IsNotedExpr scope (Binary at op a b) = IsNotedHere scope (Binary at op a b) × IsNotedExpr scope a × IsNotedExpr scope b
    IsNotedExpr scope (Field at a name) = IsNotedHere scope (Field at a name) × IsNotedExpr scope a
    IsNotedExpr scope (Call at a method args) = IsNotedHere scope (Call at a method args) × IsNotedExpr scope a × AreNotedExprs scope args
    IsNotedExpr scope (Index at a b) = IsNotedHere scope (Index at a b) × IsNotedExpr scope a × IsNotedExpr scope b
    IsNotedExpr scope (New at class args) = IsNotedHere scope (New at class args) × AreNotedExprs scope args
    IsNotedExpr scope (Items at item items) = IsNotedHere scope (Items at item items) × AreNotedExprs scope items
    IsNotedExpr scope (Taken at step) = IsNotedHere scope (Taken at step)

    pub AreNotedExprs : Scope → Exprs → Type 0
    AreNotedExprs scope NoExprs = Unit {0}
    AreNotedExprs scope (MoreExprs e es) = IsNotedExpr scope e × AreNotedExprs scope es

  -- each block in the scope in which it is judged
  abbrev mutual
    pub IsNotedStmt : Scope → Stmt → Type 0
    IsNotedStmt scope (Val at name e) = IsNotedExpr scope e
    IsNotedStmt scope (Var at name e) = IsNotedExpr scope e
    IsNotedStmt scope (Assign at a b) = IsNotedExpr scope a × IsNotedExpr scope b
    IsNotedStmt scope (Run at e) = IsNotedExpr scope e
    IsNotedStmt scope (Print at e) = IsNotedExpr scope e
    IsNotedStmt scope (Throw at e) = IsNotedExpr scope e
    IsNotedStmt scope (If at c a b) = IsNotedExpr scope c × AreNotedStmts scope a × AreNotedStmts scope b
    IsNotedStmt scope (While at c a) = IsNotedExpr scope c × AreNotedStmts scope a
    IsNotedStmt scope (For at name e a) = IsNotedExpr scope e
        × AreNotedStmts (scope_or scope (placed x scope e >>= λ p. loop_scope scope at name p)) a
    IsNotedStmt scope (Try at a name b) = AreNotedStmts scope a × AreNotedStmts (scope_or scope (catch_scope scope at name)) b
    IsNotedStmt scope (Batch at interface root a) = AreNotedStmts (scope_or scope (batch_scope x scope at interface root)) a

    pub AreNotedStmts : Scope → Stmts → Type 0
    AreNotedStmts scope NoStmts = Unit {0}
    AreNotedStmts scope (MoreStmts s ss) = IsNotedStmt scope s × AreNotedStmts (scope_or scope (check_stmt x scope s)) ss
