-- A weight of code, which falls at each step into it.
use Rattle.std.proofs.Common.{◌≡◌, ap, ℕ, zero, suc, ◌+◌, ◌<◌, ◌≤◌, max, arith, List, [], ◌∷◌, length, get_or}
use Rattle.std.specs.Prelude.{Bool, true, false, cond}
use Rattle.rb_trees.specs.declared.code.Expr as expr
use Rattle.rb_trees.specs.declared.code.Stmt as stmt
use Rattle.rb_trees.specs.mirror.Code as code
use Rattle.rb_trees.specs.mirror.Code.{Expr, Exprs, Stmt, Stmts, mirror_expr, mirror_exprs, mirror_stmt, mirror_stmts}

abbrev mutual
  pub expr_weight : Expr → ℕ
  expr_weight (code.Lit at v) = 0
  expr_weight (code.Name at n) = 0
  expr_weight (code.This at) = 0
  expr_weight (code.Unary at op a) = 2 + expr_weight a
  expr_weight (code.Binary at op a b) = 3 + max (expr_weight a) (expr_weight b)
  expr_weight (code.Field at a n) = 2 + expr_weight a
  expr_weight (code.Call at r n es) = 4 + max (expr_weight r) (exprs_weight es)
  expr_weight (code.Index at a b) = 3 + max (expr_weight a) (expr_weight b)
  expr_weight (code.New at n es) = 3 + exprs_weight es
  expr_weight (code.Items at t es) = 3 + exprs_weight es
  expr_weight (code.Taken at step) = 0

  pub exprs_weight : Exprs → ℕ
  exprs_weight code.NoExprs = 0
  exprs_weight (code.MoreExprs e es) = max (expr_weight e) (exprs_weight es)

abbrev mutual
  pub stmt_weight : Stmt → ℕ
  stmt_weight (code.Val at n e) = 0
  stmt_weight (code.Var at n e) = 0
  stmt_weight (code.Assign at a b) = 0
  stmt_weight (code.Run at e) = 0
  stmt_weight (code.Print at e) = 0
  stmt_weight (code.Throw at e) = 0
  stmt_weight (code.If at c a b) = 6 + max (stmts_weight a) (stmts_weight b)
  stmt_weight (code.While at c a) = 0
  stmt_weight (code.For at n e a) = 8 + stmts_weight a
  stmt_weight (code.Try at a n b) = 0
  stmt_weight (code.Batch at i n a) = 0

  pub stmts_weight : Stmts → ℕ
  stmts_weight code.NoStmts = 0
  stmts_weight (code.MoreStmts s ss) = max (stmt_weight s) (stmts_weight ss)

-- the same of trees
abbrev pub weight_of : expr.Expr → ℕ
weight_of e = expr_weight (mirror_expr e)

abbrev pub weights_of : List expr.Expr → ℕ
weights_of es = exprs_weight (mirror_exprs es)

abbrev pub stmt_of : stmt.Stmt → ℕ
stmt_of s = stmt_weight (mirror_stmt s)

abbrev pub stmts_of : List stmt.Stmt → ℕ
stmts_of ss = stmts_weight (mirror_stmts ss)

-- each item weighs no more than the list
pub expr_in : (es : List expr.Expr) (i : ℕ) (e : expr.Expr) → i < length es → weight_of (get_or es i e) ≤ weights_of es
expr_in [] i e l = absurd (omega arith)
expr_in (x ∷ es) zero e l = omega arith
expr_in (x ∷ es) (suc i) e l = let h = expr_in es i e (omega arith) in omega arith

pub stmt_in : (ss : List stmt.Stmt) (i : ℕ) (s : stmt.Stmt) → i < length ss → stmt_of (get_or ss i s) ≤ stmts_of ss
stmt_in [] i s l = absurd (omega arith)
stmt_in (x ∷ ss) zero s l = omega arith
stmt_in (x ∷ ss) (suc i) s l = let h = stmt_in ss i s (omega arith) in omega arith

pub chosen_in : (holds : Bool) (a b ss : List stmt.Stmt) → ss ≡ cond holds a b → stmts_of ss ≤ max (stmts_of a) (stmts_of b)
chosen_in true a b ss e = let h = ap stmts_of e in omega (arith, h)
chosen_in false a b ss e = let h = ap stmts_of e in omega (arith, h)
