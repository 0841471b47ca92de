-- What the walks compute, over the trees of the code.
use Rattle.std.specs.Prelude.{ℕ, List, map, Bool, true}
use Rattle.rb_trees.specs.declared.code.Expr.{Expr}
use Rattle.rb_trees.specs.declared.code.Stmt.{Stmt}
use Rattle.rb_trees.specs.declared.declarations.Method.{Method}
use Rattle.rb_trees.specs.declared.declarations.Class.{Class}
use Rattle.rb_trees.specs.declared.declarations.Program.{Program}
use Rattle.rb_trees.specs.mirror.Code.{mirror_expr, mirror_exprs, mirror_stmt, mirror_stmts}
use Rattle.rb_trees.specs.mirror.Declarations.{mirror_method, mirror_class}
use Rattle.rb_meaning_flow.specs.declared.scopes.Role.{Role}
use Rattle.rb_meaning_flow.specs.Scopes.{Scope, with_variable, assigned_in}
use Rattle.rb_meaning_flow.specs.Outermost.{outer_after}
use Rattle.rb_marks.specs.declared.batch.Batch.{Batch}
use Rattle.rb_marks.specs.declared.declared.Declared.{Declared}
use Rattle.rb_marks.specs.Views.{told, facts_in, seen, with_declared}
use Rattle.rb_marks.specs.Passes as passes
use Rattle.rb_marks.specs.Passes.{Marked, Placed}

-- Each gives the notes behind a part of the program, by those before it.

-- in a batch: an expression, its parts alone, and expressions in order
abbrev pub expr_marks : Batch → Scope → Bool → Marked → Expr → Marked
expr_marks x scope inside notes e = passes.marked (facts_in x) (seen x scope) inside notes (mirror_expr e)

abbrev pub part_marks : Batch → Scope → Bool → Marked → Expr → Marked
part_marks x scope inside notes e = passes.parts_marked (facts_in x) (seen x scope) inside notes (mirror_expr e)

abbrev pub exprs_marks : Batch → Scope → Bool → Marked → List Expr → Marked
exprs_marks x scope inside notes es = passes.all_marked (facts_in x) (seen x scope) inside notes (mirror_exprs es)

-- a statement, statements in order, and a block with a variable of its own
abbrev pub stmt_marks : Batch → Bool → Scope → Marked → Stmt → Marked
stmt_marks x script scope notes s = passes.stmt_marked (facts_in x) x.assigned script scope notes (mirror_stmt s)

abbrev pub stmts_marks : Batch → Bool → Scope → Marked → List Stmt → Marked
stmts_marks x script scope notes ss = passes.block_marked (facts_in x) x.assigned script scope notes (mirror_stmts ss)

abbrev pub opened_marks : Batch → Bool → Scope → Declared → Marked → List Stmt → Marked
opened_marks x script scope own notes ss = stmts_marks x script (with_declared scope own) notes ss

-- the scope behind a statement
abbrev pub scope_behind : Batch → Bool → Scope → Stmt → Scope
scope_behind x script scope s = passes.scope_then (facts_in x) x.assigned script scope (mirror_stmt s)

-- the same for places
abbrev pub stmt_places : Batch → Bool → Scope → Placed → Stmt → Placed
stmt_places x script scope notes s = passes.stmt_placed (facts_in x) x.assigned script scope notes (mirror_stmt s)

abbrev pub stmts_places : Batch → Bool → Scope → Placed → List Stmt → Placed
stmts_places x script scope notes ss = passes.block_placed (facts_in x) x.assigned script scope notes (mirror_stmts ss)

abbrev pub opened_places : Batch → Bool → Scope → Declared → Placed → List Stmt → Placed
opened_places x script scope own notes ss = stmts_places x script (with_declared scope own) notes ss

-- outside batches: an outermost batch, a statement, statements in order, and a block with a variable of its own
abbrev pub batch_marks : Program → Scope → List ℕ → ℕ → Marked → List Stmt → Marked
batch_marks p scope root at notes block =
    passes.block_marked (told p) (assigned_in (mirror_stmts block)) true (with_variable scope root Role.Root at) notes (mirror_stmts block)

abbrev pub outer_marks : Program → Scope → Marked → Stmt → Marked
outer_marks p scope notes s = passes.outer_marked (told p) scope notes (mirror_stmt s)

abbrev pub outer_stmts_marks : Program → Scope → Marked → List Stmt → Marked
outer_stmts_marks p scope notes ss = passes.outer_block_marked (told p) scope notes (mirror_stmts ss)

abbrev pub outer_opened_marks : Program → Scope → Declared → Marked → List Stmt → Marked
outer_opened_marks p scope own notes ss = outer_stmts_marks p (with_declared scope own) notes ss

abbrev pub outer_scope_behind : Program → Scope → Stmt → Scope
outer_scope_behind p scope s = outer_after (told p) scope (mirror_stmt s)

abbrev pub methods_marks : Program → Marked → List Method → Marked
methods_marks p notes ms = passes.methods_marked (told p) notes (map mirror_method ms)

abbrev pub classes_marks : Program → Marked → List Class → Marked
classes_marks p notes cs = passes.classes_marked (told p) notes (map mirror_class cs)

-- the same for places
abbrev pub batch_places : Program → Scope → List ℕ → ℕ → Placed → List Stmt → Placed
batch_places p scope root at notes block =
    passes.block_placed (told p) (assigned_in (mirror_stmts block)) true (with_variable scope root Role.Root at) notes (mirror_stmts block)

abbrev pub outer_places : Program → Scope → Placed → Stmt → Placed
outer_places p scope notes s = passes.outer_placed (told p) scope notes (mirror_stmt s)

abbrev pub outer_stmts_places : Program → Scope → Placed → List Stmt → Placed
outer_stmts_places p scope notes ss = passes.outer_block_placed (told p) scope notes (mirror_stmts ss)

abbrev pub outer_opened_places : Program → Scope → Declared → Placed → List Stmt → Placed
outer_opened_places p scope own notes ss = outer_stmts_places p (with_declared scope own) notes ss

abbrev pub methods_places : Program → Placed → List Method → Placed
methods_places p notes ms = passes.methods_placed (told p) notes (map mirror_method ms)

abbrev pub classes_places : Program → Placed → List Class → Placed
classes_places p notes cs = passes.classes_placed (told p) notes (map mirror_class cs)
