-- A law of lawful programs: each carried loop stands at a position of its own.
use Rattle.std.specs.Prelude.{◌≡◌, ℕ, List, [], ◌∷◌, ◌++◌, false}
use Rattle.std.specs.List.{AllByRecursion, Contains}
use Rattle.rb_trees.specs.mirror.Code.{expr_at, Stmt, Stmts, Val, Var, Assign, Run, Print, Throw, If, While, For, Try, Batch, NoStmts, MoreStmts, stmt_at}
use Rattle.rb_trees.specs.mirror.Declarations.{Body, Method, Class, Program}
use Rattle.rb_meaning_types.specs.Lawful.{IsLawful, expr_positions, return_positions}
use Rattle.rb_meaning_flow.specs.Facts.{facts_of}
use Rattle.rb_meaning_flow.specs.Sites.{StmtSite, ExprSite, exprs_of}
use Rattle.rb_meaning_flow.specs.Programs.{sites_of, is_carried_loop, is_carried_at}

-- the positions of a statement and of its blocks; of a batch its own alone, for what stands in it is left out
abbrev mutual
  pub stmt_outside : Stmt → List ℕ
  stmt_outside (Val at name e) = at ∷ expr_positions e
  stmt_outside (Var at name e) = at ∷ expr_positions e
  stmt_outside (Assign at a b) = at ∷ (expr_positions a ++ expr_positions b)
  stmt_outside (Run at e) = at ∷ expr_positions e
  stmt_outside (Print at e) = at ∷ expr_positions e
  stmt_outside (Throw at e) = at ∷ expr_positions e
  stmt_outside (If at c a b) = at ∷ (expr_positions c ++ stmts_outside a ++ stmts_outside b)
  stmt_outside (While at c a) = at ∷ (expr_positions c ++ stmts_outside a)
  stmt_outside (For at name e a) = at ∷ (expr_positions e ++ stmts_outside a)
  stmt_outside (Try at a name b) = at ∷ (stmts_outside a ++ stmts_outside b)
  stmt_outside (Batch at interface root a) = at ∷ []

  pub stmts_outside : Stmts → List ℕ
  stmts_outside NoStmts = []
  stmts_outside (MoreStmts s ss) = stmt_outside s ++ stmts_outside ss

abbrev pub body_outside : Body → List ℕ
body_outside body = stmts_outside body.statements ++ return_positions body.result

abbrev pub methods_outside : List Method → List ℕ
methods_outside [] = []
methods_outside (m ∷ ms) = body_outside m.body ++ methods_outside ms

abbrev pub classes_outside : List Class → List ℕ
classes_outside [] = []
classes_outside (c ∷ cs) = methods_outside c.methods ++ classes_outside cs

-- No carried loop stands at a position.
abbrev pub IsUncarriedAt : Program → ℕ → Type 0
IsUncarriedAt p at = is_carried_at p at ≡ false

pub record HasCarriedLoops (p : Program) : Type 0 where
  -- a statement of a batch is a carried loop just where one stands at its position
  pub loops : (ss : List StmtSite) → Contains (sites_of p) ss → (s : StmtSite) → Contains ss s → is_carried_at p (stmt_at s.stmt) ≡ is_carried_loop (facts_of p) s
  -- none stands at the position of an expression of a batch, nor of code outside of batches
  pub exprs : (ss : List StmtSite) → Contains (sites_of p) ss → (s : ExprSite) → Contains (exprs_of ss) s → IsUncarriedAt p (expr_at s.expr)
  pub classes : AllByRecursion (IsUncarriedAt p) (classes_outside p.classes)
  pub main : AllByRecursion (IsUncarriedAt p) (body_outside p.body)

-- So it is in each lawful program, typed or not.
abbrev pub LawfulHaveCarriedLoops : Type 0
LawfulHaveCarriedLoops = (p : Program) → IsLawful p → HasCarriedLoops p
