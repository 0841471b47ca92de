-- What the walks of the code compute, flag by flag. Only contracts inside the crate cite these words:
-- `proofs/Agree.antt` says that they give the marks and places of the definitions.
use Rattle.std.specs.Prelude.{ℕ, List, [], ◌∷◌, ◌++◌, Bool, true, false, cond, ◌&&◌, ◌||◌}
use Rattle.rb_trees.specs.declared.marks.Mark.{Mark}
use Rattle.rb_trees.specs.declared.marks.Place.{Place}
use Rattle.rb_trees.specs.mirror.Code.{Expr, Exprs, Lit, Name, This, Unary, Binary, Field, Call, Index, New, Items, Taken, NoExprs, MoreExprs, expr_at, Stmt, Stmts, Val, Var, Assign, Run, Print, Throw, If, While, For, Try, Batch, NoStmts, MoreStmts, stmt_at}
use Rattle.rb_trees.specs.mirror.Declarations.{Method, Class, Program}
use Rattle.rb_meaning_flow.specs.declared.scopes.Role.{Role}
use Rattle.rb_meaning_flow.specs.Facts.{Facts, over_rows}
use Rattle.rb_meaning_flow.specs.Scopes.{Scope, with_variable, scope_with, assigned_in}
use Rattle.rb_meaning_flow.specs.Portable.{portable, is_constant, branches_hold, holds_operation, has_far_turns}
use Rattle.rb_meaning_flow.specs.Marks.{is_portable_call}
use Rattle.rb_meaning_flow.specs.Outermost.{outer_role, parameters, outer_after}

-- a position with what was found there
abbrev pub Marked : Type 0
Marked = List (ℕ × Mark)

abbrev pub Placed : Type 0
Placed = List (ℕ × Place)

-- whether an expression, and so each of its parts, is Remote, where those above it tell so far
abbrev pub inner : Facts → Scope → Bool → Expr → Bool
inner x scope inside e = inside || is_portable_call x scope e

abbrev pub mark_of : Scope → Bool → Expr → Mark
mark_of scope remote e = cond remote Mark.Remote (cond (is_constant scope e) Mark.Constant Mark.Local)

abbrev pub note : Scope → Bool → Marked → Expr → Marked
note scope remote notes e = notes ++ (expr_at e, mark_of scope remote e) ∷ []

-- the notes so far, and those of an expression that is Remote or not, and of its parts
abbrev mutual
  pub marked : Facts → Scope → Bool → Marked → Expr → Marked
  marked x scope inside notes (Lit at value) = note scope (inner x scope inside (Lit at value)) notes (Lit at value)
  marked x scope inside notes (Name at name) = note scope (inner x scope inside (Name at name)) notes (Name at name)
  marked x scope inside notes (This at) = note scope (inner x scope inside (This at)) notes (This at)
  marked x scope inside notes (Unary at op a) =
      marked x scope (inner x scope inside (Unary at op a)) (note scope (inner x scope inside (Unary at op a)) notes (Unary at op a)) a
  marked x scope inside notes (Binary at op a b) =
      marked x scope (inner x scope inside (Binary at op a b)) (marked x scope (inner x scope inside (Binary at op a b)) (note scope (inner x scope inside (Binary at op a b)) notes (Binary at op a b)) a) b
  marked x scope inside notes (Field at a name) =
      marked x scope (inner x scope inside (Field at a name)) (note scope (inner x scope inside (Field at a name)) notes (Field at a name)) a
  marked x scope inside notes (Call at a method args) =
      all_marked x scope (inner x scope inside (Call at a method args)) (marked x scope (inner x scope inside (Call at a method args)) (note scope (inner x scope inside (Call at a method args)) notes (Call at a method args)) a) args
  marked x scope inside notes (Index at a b) =
      marked x scope (inner x scope inside (Index at a b)) (marked x scope (inner x scope inside (Index at a b)) (note scope (inner x scope inside (Index at a b)) notes (Index at a b)) a) b
  marked x scope inside notes (New at class args) =
      all_marked x scope (inner x scope inside (New at class args)) (note scope (inner x scope inside (New at class args)) notes (New at class args)) args
  marked x scope inside notes (Items at item items) =
      all_marked x scope (inner x scope inside (Items at item items)) (note scope (inner x scope inside (Items at item items)) notes (Items at item items)) items
  marked x scope inside notes (Taken at step) = note scope (inner x scope inside (Taken at step)) notes (Taken at step)

  pub all_marked : Facts → Scope → Bool → Marked → Exprs → Marked
  all_marked x scope inside notes NoExprs = notes
  all_marked x scope inside notes (MoreExprs e es) = all_marked x scope inside (marked x scope inside notes e) es

-- the notes of an expression's parts alone
abbrev pub parts_marked : Facts → Scope → Bool → Marked → Expr → Marked
parts_marked x scope inside notes (Lit at value) = notes
parts_marked x scope inside notes (Name at name) = notes
parts_marked x scope inside notes (This at) = notes
parts_marked x scope inside notes (Unary at op a) = marked x scope inside notes a
parts_marked x scope inside notes (Binary at op a b) = marked x scope inside (marked x scope inside notes a) b
parts_marked x scope inside notes (Field at a name) = marked x scope inside notes a
parts_marked x scope inside notes (Call at a method args) = all_marked x scope inside (marked x scope inside notes a) args
parts_marked x scope inside notes (Index at a b) = marked x scope inside (marked x scope inside notes a) b
parts_marked x scope inside notes (New at class args) = all_marked x scope inside notes args
parts_marked x scope inside notes (Items at item items) = all_marked x scope inside notes items
parts_marked x scope inside notes (Taken at step) = notes

-- whether the branches of an `if` are script places
abbrev pub branch_script : Facts → Bool → Stmts → Stmts → Bool
branch_script x script a b = script && branches_hold x a b

-- whether the block of a loop is one
abbrev pub turn_script : Facts → Bool → Scope → Expr → Stmts → Bool
turn_script x script scope list block = script && has_far_turns x scope list block

-- what the variable of a loop is, which is over rows or isn't, and whose block is a script place or isn't
abbrev pub turn_role : (rows script : Bool) → Role
turn_role rows script = cond (rows || script) Role.Row Role.Plain

abbrev pub carried_role : Facts → Bool → Scope → Expr → Role
carried_role x script scope e = cond (script && portable x scope e) Role.Carried Role.Plain

-- The scope of a batch is kept as it is outside: which variables the batch assigns is told beside it.

-- the scope after a statement of a batch
abbrev pub scope_then : Facts → List (List ℕ) → Bool → Scope → Stmt → Scope
scope_then x assigned script scope (Val at name e) = with_variable scope name (carried_role x script (scope_with assigned scope) e) at
scope_then x assigned script scope (Var at name e) = with_variable scope name Role.Plain at
scope_then x assigned script scope (Assign at a b) = scope
scope_then x assigned script scope (Run at e) = scope
scope_then x assigned script scope (Print at e) = scope
scope_then x assigned script scope (Throw at e) = scope
scope_then x assigned script scope (If at c a b) = scope
scope_then x assigned script scope (While at c a) = scope
scope_then x assigned script scope (For at name e a) = scope
scope_then x assigned script scope (Try at a name b) = scope
scope_then x assigned script scope (Batch at interface root a) = scope

-- the notes so far, and those of a statement of a batch
abbrev mutual
  pub stmt_marked : Facts → List (List ℕ) → Bool → Scope → Marked → Stmt → Marked
  stmt_marked x assigned script scope notes (Val at name e) = marked x (scope_with assigned scope) false notes e
  stmt_marked x assigned script scope notes (Var at name e) = marked x (scope_with assigned scope) false notes e
  stmt_marked x assigned script scope notes (Assign at a b) = marked x (scope_with assigned scope) false (marked x (scope_with assigned scope) false notes a) b
  stmt_marked x assigned script scope notes (Run at e) = marked x (scope_with assigned scope) false notes e
  stmt_marked x assigned script scope notes (Print at e) = marked x (scope_with assigned scope) false notes e
  stmt_marked x assigned script scope notes (Throw at e) = marked x (scope_with assigned scope) false notes e
  stmt_marked x assigned script scope notes (If at c a b) =
      block_marked x assigned (branch_script x script a b) scope (block_marked x assigned (branch_script x script a b) scope (marked x (scope_with assigned scope) (branch_script x script a b) notes c) a) b
  stmt_marked x assigned script scope notes (While at c a) = block_marked x assigned false scope (marked x (scope_with assigned scope) false notes c) a
  stmt_marked x assigned script scope notes (For at name e a) =
      block_marked x assigned (turn_script x script (scope_with assigned scope) e a)
      (with_variable scope name (turn_role (over_rows x e) (turn_script x script (scope_with assigned scope) e a)) at)
      (marked x (scope_with assigned scope) (over_rows x e) notes e) a
  stmt_marked x assigned script scope notes (Try at a name b) =
      block_marked x assigned false (with_variable scope name Role.Plain at) (block_marked x assigned false scope notes a) b
  stmt_marked x assigned script scope notes (Batch at interface root a) = block_marked x assigned false (with_variable scope root Role.Plain at) notes a

  pub block_marked : Facts → List (List ℕ) → Bool → Scope → Marked → Stmts → Marked
  block_marked x assigned script scope notes NoStmts = notes
  block_marked x assigned script scope notes (MoreStmts s ss) = block_marked x assigned script (scope_then x assigned script scope s) (stmt_marked x assigned script scope notes s) ss

abbrev pub place_of : Facts → Bool → Stmt → Place
place_of x script s = cond (holds_operation x s) (cond script Place.Script Place.Elsewhere) Place.LocalOnly

abbrev pub place_noted : Facts → Bool → Placed → Stmt → Placed
place_noted x script notes s = notes ++ (stmt_at s, place_of x script s) ∷ []

abbrev mutual
  pub stmt_placed : Facts → List (List ℕ) → Bool → Scope → Placed → Stmt → Placed
  stmt_placed x assigned script scope notes (Val at name e) = place_noted x script notes (Val at name e)
  stmt_placed x assigned script scope notes (Var at name e) = place_noted x script notes (Var at name e)
  stmt_placed x assigned script scope notes (Assign at a b) = place_noted x script notes (Assign at a b)
  stmt_placed x assigned script scope notes (Run at e) = place_noted x script notes (Run at e)
  stmt_placed x assigned script scope notes (Print at e) = place_noted x script notes (Print at e)
  stmt_placed x assigned script scope notes (Throw at e) = place_noted x script notes (Throw at e)
  stmt_placed x assigned script scope notes (If at c a b) =
      block_placed x assigned (branch_script x script a b) scope (block_placed x assigned (branch_script x script a b) scope (place_noted x script notes (If at c a b)) a) b
  stmt_placed x assigned script scope notes (While at c a) = block_placed x assigned false scope (place_noted x script notes (While at c a)) a
  stmt_placed x assigned script scope notes (For at name e a) =
      block_placed x assigned (turn_script x script (scope_with assigned scope) e a)
      (with_variable scope name (turn_role (over_rows x e) (turn_script x script (scope_with assigned scope) e a)) at)
      (place_noted x script notes (For at name e a)) a
  stmt_placed x assigned script scope notes (Try at a name b) =
      block_placed x assigned false (with_variable scope name Role.Plain at) (block_placed x assigned false scope (place_noted x script notes (Try at a name b)) a) b
  stmt_placed x assigned script scope notes (Batch at interface root a) =
      block_placed x assigned false (with_variable scope root Role.Plain at) (place_noted x script notes (Batch at interface root a)) a

  pub block_placed : Facts → List (List ℕ) → Bool → Scope → Placed → Stmts → Placed
  block_placed x assigned script scope notes NoStmts = notes
  block_placed x assigned script scope notes (MoreStmts s ss) = block_placed x assigned script (scope_then x assigned script scope s) (stmt_placed x assigned script scope notes s) ss

-- the notes so far, and those of the outermost batches of a statement outside batches
abbrev mutual
  pub outer_marked : Facts → Scope → Marked → Stmt → Marked
  outer_marked x scope notes (Val at name e) = notes
  outer_marked x scope notes (Var at name e) = notes
  outer_marked x scope notes (Assign at a b) = notes
  outer_marked x scope notes (Run at e) = notes
  outer_marked x scope notes (Print at e) = notes
  outer_marked x scope notes (Throw at e) = notes
  outer_marked x scope notes (If at c a b) = outer_block_marked x scope (outer_block_marked x scope notes a) b
  outer_marked x scope notes (While at c a) = outer_block_marked x scope notes a
  outer_marked x scope notes (For at name e a) = outer_block_marked x (with_variable scope name (outer_role (x.items (expr_at e)) (x.lists (expr_at e))) at) notes a
  outer_marked x scope notes (Try at a name b) = outer_block_marked x (with_variable scope name (outer_role true false) at) (outer_block_marked x scope notes a) b
  outer_marked x scope notes (Batch at interface root a) = block_marked x (assigned_in a) true (with_variable scope root Role.Root at) notes a

  pub outer_block_marked : Facts → Scope → Marked → Stmts → Marked
  outer_block_marked x scope notes NoStmts = notes
  outer_block_marked x scope notes (MoreStmts s ss) = outer_block_marked x (outer_after x scope s) (outer_marked x scope notes s) ss

abbrev mutual
  pub outer_placed : Facts → Scope → Placed → Stmt → Placed
  outer_placed x scope notes (Val at name e) = notes
  outer_placed x scope notes (Var at name e) = notes
  outer_placed x scope notes (Assign at a b) = notes
  outer_placed x scope notes (Run at e) = notes
  outer_placed x scope notes (Print at e) = notes
  outer_placed x scope notes (Throw at e) = notes
  outer_placed x scope notes (If at c a b) = outer_block_placed x scope (outer_block_placed x scope notes a) b
  outer_placed x scope notes (While at c a) = outer_block_placed x scope notes a
  outer_placed x scope notes (For at name e a) = outer_block_placed x (with_variable scope name (outer_role (x.items (expr_at e)) (x.lists (expr_at e))) at) notes a
  outer_placed x scope notes (Try at a name b) = outer_block_placed x (with_variable scope name (outer_role true false) at) (outer_block_placed x scope notes a) b
  outer_placed x scope notes (Batch at interface root a) = block_placed x (assigned_in a) true (with_variable scope root Role.Root at) notes a

  pub outer_block_placed : Facts → Scope → Placed → Stmts → Placed
  outer_block_placed x scope notes NoStmts = notes
  outer_block_placed x scope notes (MoreStmts s ss) = outer_block_placed x (outer_after x scope s) (outer_placed x scope notes s) ss

-- the notes of methods, of classes, and of a whole program
abbrev pub methods_marked : Facts → Marked → List Method → Marked
methods_marked x notes [] = notes
methods_marked x notes (m ∷ ms) = methods_marked x (outer_block_marked x (parameters m.signature.params) notes m.body.statements) ms

abbrev pub classes_marked : Facts → Marked → List Class → Marked
classes_marked x notes [] = notes
classes_marked x notes (c ∷ cs) = classes_marked x (methods_marked x notes c.methods) cs

abbrev pub program_marked : Facts → Program → Marked
program_marked x p = outer_block_marked x [] (classes_marked x [] p.classes) p.body.statements

abbrev pub methods_placed : Facts → Placed → List Method → Placed
methods_placed x notes [] = notes
methods_placed x notes (m ∷ ms) = methods_placed x (outer_block_placed x (parameters m.signature.params) notes m.body.statements) ms

abbrev pub classes_placed : Facts → Placed → List Class → Placed
classes_placed x notes [] = notes
classes_placed x notes (c ∷ cs) = classes_placed x (methods_placed x notes c.methods) cs

abbrev pub program_placed : Facts → Program → Placed
program_placed x p = outer_block_placed x [] (classes_placed x [] p.classes) p.body.statements
