-- A weight of statements, which falls at each step into their blocks.
use Rattle.std.proofs.Common.{◌≡◌, ap, ℕ, zero, suc, ◌+◌, ◌<◌, ◌≤◌, max, arith, List, [], ◌∷◌, length, get_or}
use Rattle.rb_trees.specs.declared.code.Stmt as stmt
use Rattle.rb_trees.specs.mirror.Code.{Stmt, Stmts, Val, Var, Assign, Run, Print, Throw, If, While, For, Try, Batch, NoStmts, MoreStmts, mirror_stmt, mirror_stmts}

abbrev mutual
  pub stmt_weight : Stmt → ℕ
  stmt_weight (If at c a b) = 6 + max (stmts_weight a) (stmts_weight b)
  stmt_weight (For at name e a) = 6 + stmts_weight a
  stmt_weight _ = 0

  pub stmts_weight : Stmts → ℕ
  stmts_weight NoStmts = 0
  stmts_weight (MoreStmts s ss) = max (stmt_weight s) (stmts_weight ss)

-- the same of trees
abbrev pub stmt_of : stmt.Stmt → ℕ
stmt_of s = stmt_weight (mirror_stmt s)

abbrev pub stmts_of : List stmt.Stmt → ℕ
stmts_of ss = stmts_weight (mirror_stmts ss)

-- each statement weighs no more than the block
pub stmt_in : (ss : List stmt.Stmt) (i : ℕ) (s : stmt.Stmt) → i < length ss → stmt_of (get_or ss i s) ≤ stmts_of ss
stmt_in [] i s l = absurd (omega arith)
stmt_in (x ∷ ss) zero s l = omega arith
stmt_in (x ∷ ss) (suc i) s l = let h = stmt_in ss i s (omega arith) in omega arith
