-- A law of admitted batches: local code stands at positions that aren't those of remote expressions, nor those of carried loops.
use Rattle.std.specs.Prelude.{◌≡◌, List, Some, false}
use Rattle.std.specs.List.{Contains}
use Rattle.std.specs.FinMap.{get}
use Rattle.rb_trees.specs.mirror.Code.{Stmt, expr_at, stmt_at}
use Rattle.rb_trees.specs.mirror.Declarations.{Program}
use Rattle.rb_meaning_flow.specs.Facts.{facts_of}
use Rattle.rb_meaning_flow.specs.Scopes.{Scope}
use Rattle.rb_meaning_flow.specs.Marks.{is_portable_call, mark_at}
use Rattle.rb_meaning_flow.specs.Programs.{program_marks, is_carried_loop, is_carried_at}
use Rattle.rb_meaning_flow.specs.Sites.{Around, StmtSite, ExprSite, sites, exprs_of}
use Rattle.rb_law_local.specs.Placed.{PlacedStmt}
use Rattle.rb_law_local.specs.Local.{IsLocalAt, IsPlainAt}
use Rattle.rb_law_local.specs.Admitted.{IsAdmittedBatch, StaysWhole}

-- The expressions of a batch have their marks by their positions, and none is that of a statement. A statement is a carried loop just
-- where one stands at its position, and none stands at an expression's.
pub record HasMarks (p : Program) (ss : List StmtSite) : Type 0 where
  pub exprs : (s : ExprSite) → Contains (exprs_of ss) s → get (program_marks p) (expr_at s.expr) ≡ Some (mark_at (facts_of p) s)
  pub stmts : (s : StmtSite) → Contains ss s → IsLocalAt p (stmt_at s.stmt)
  pub loops : (s : StmtSite) → Contains ss s → is_carried_at p (stmt_at s.stmt) ≡ is_carried_loop (facts_of p) s
  pub uncarried : (s : ExprSite) → Contains (exprs_of ss) s → is_carried_at p (expr_at s.expr) ≡ false

-- So what isn't taken of a statement that stays with the client as a whole stands at such positions.
abbrev pub AdmittedArePlaced : Type 0
AdmittedArePlaced = (p : Program) (ss : List StmtSite) → IsAdmittedBatch (facts_of p) ss → HasMarks p ss
    → (around : List Around) (vs : Scope) (s : Stmt) → ((t : StmtSite) → Contains (sites (facts_of p) around vs s) t → Contains ss t) → StaysWhole (facts_of p) vs s
    → PlacedStmt (IsPlainAt p) (is_portable_call (facts_of p) vs) s
