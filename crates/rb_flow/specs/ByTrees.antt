-- What is collected, walked and read, by the trees that the code has.
use Rattle.std.specs.Prelude.{ℕ, List, Bool, map}
use Rattle.rb_trees.specs.declared.code.Expr as expr
use Rattle.rb_trees.specs.declared.code.Stmt as stmt
use Rattle.rb_trees.specs.declared.declarations.Class as class
use Rattle.rb_trees.specs.declared.declarations.Method as method
use Rattle.rb_trees.specs.declared.declarations.Program as program
use Rattle.rb_trees.specs.mirror.Code.{mirror_expr, mirror_stmt, mirror_stmts}
use Rattle.rb_trees.specs.mirror.Declarations.{mirror_class, mirror_method}
use Rattle.rb_meaning_flow.specs.declared.scopes.Role.{Role}
use Rattle.rb_meaning_flow.specs.Scopes.{Scope}
use Rattle.rb_flow.specs.declared.findings.Findings.{Findings}
use Rattle.rb_flow.specs.declared.outermost.OpenBatch.{OpenBatch}
use Rattle.rb_flow.specs.declared.standing.Reading.{Reading}
use Rattle.rb_flow.specs.declared.standing.Standing.{Standing}
use Rattle.rb_flow.specs.Begun as begun
use Rattle.rb_flow.specs.Begun.{Begun, begun_of}
use Rattle.rb_flow.specs.Readings as readings
use Rattle.rb_flow.specs.Views.{facts}
use Rattle.rb_flow.specs.Walked as words

module _ (p : program.Program) where
  -- the batches so far, and those of a statement outside batches, of a block, of methods and of classes
  abbrev pub stmt_begun : Scope → List OpenBatch → stmt.Stmt → List Begun
  stmt_begun scope bs s = begun.stmt_begun (facts p) scope (map begun_of bs) (mirror_stmt s)

  abbrev pub block_begun : Scope → List OpenBatch → List stmt.Stmt → List Begun
  block_begun scope bs ss = begun.block_begun (facts p) scope (map begun_of bs) (mirror_stmts ss)

  abbrev pub methods_begun : List OpenBatch → List method.Method → List Begun
  methods_begun bs ms = begun.methods_begun (facts p) (map begun_of bs) (map mirror_method ms)

  abbrev pub classes_begun : List OpenBatch → List class.Class → List Begun
  classes_begun bs cs = begun.classes_begun (facts p) (map begun_of bs) (map mirror_class cs)

  -- what is found once an expression that stands by itself, or a block, was walked
  abbrev pub whole_walked : Standing → Scope → Bool → Findings → expr.Expr → Findings
  whole_walked standing scope may found e =
      words.expr_walked (facts p) scope standing.around (words.whole_inside standing may) found (mirror_expr e)

  abbrev pub block_walked : Standing → Scope → Findings → List stmt.Stmt → Findings
  block_walked standing scope found ss = words.block_walked (facts p) standing scope found (mirror_stmts ss)

  -- what stands around the blocks of an `if`, around that of a `for`, and around those of a `try`
  abbrev pub branch_standing : Scope → Standing → expr.Expr → (a b : List stmt.Stmt) → Standing
  branch_standing scope standing c a b = words.branch_standing (facts p) scope standing (mirror_expr c) (mirror_stmts a) (mirror_stmts b)

  abbrev pub turn_standing : Scope → Standing → expr.Expr → List stmt.Stmt → Standing
  turn_standing scope standing e block = words.turn_standing (facts p) scope standing (mirror_expr e) (mirror_stmts block)

  abbrev pub try_standing : Scope → Standing → ℕ → List stmt.Stmt → List ℕ → List stmt.Stmt → Standing
  try_standing scope standing at a name b = words.try_standing (facts p) scope standing at (mirror_stmts a) name (mirror_stmts b)

  -- the role of a `val` of this expression
  abbrev pub val_role : Standing → Scope → expr.Expr → Role
  val_role standing scope e = words.val_role_in (facts p) standing scope (mirror_expr e)

  -- what is read once a block was read, too
  abbrev pub block_read : Scope → Reading → List stmt.Stmt → Reading
  block_read scope reading ss = readings.block_read (facts p) scope reading (mirror_stmts ss)

  -- what is read for an assignment
  abbrev pub assignment_read : Scope → Reading → (a b : expr.Expr) → Reading
  assignment_read scope around a b = readings.joined (words.assign_read (facts p) scope (mirror_expr a) (mirror_expr b)) around
