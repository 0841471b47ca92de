-- What expressions, statements and blocks read, as it is gathered on the way.
use Rattle.std.specs.Prelude.{ℕ, List, [], ◌∷◌, ◌++◌, Bool, false, not, cond, ◌&&◌, ◌||◌}
use Rattle.std.specs.List.{flat_map}
use Rattle.rb_trees.specs.mirror.Code.{Expr, Exprs, Lit, Name, This, Unary, Binary, Field, Call, Index, New, Items, Taken, NoExprs, MoreExprs, expr_at, Stmt, Stmts, Val, Var, Assign, Run, Print, Throw, If, While, For, Try, Batch, NoStmts, MoreStmts}
use Rattle.rb_meaning_flow.specs.declared.scopes.Role.{Role}
use Rattle.rb_meaning_flow.specs.Facts.{Facts}
use Rattle.rb_meaning_flow.specs.Scopes.{Scope, with_variable}
use Rattle.rb_meaning_flow.specs.Sites.{ExprSite}
use Rattle.rb_meaning_flow.specs.Flow.{is_call, read_here, reads_of, source_of}
use Rattle.rb_flow.specs.declared.standing.Reading.{Reading}

abbrev pub nothing : Reading
nothing = record { nodes = []; sources = [] }

-- what is read by both
abbrev pub joined : Reading → Reading → Reading
joined a b = record { nodes = a.nodes ++ b.nodes; sources = a.sources ++ b.sources }

-- what these expressions read, each by itself
abbrev pub read_by : Facts → List ExprSite → Reading
read_by x ss = record { nodes = flat_map (reads_of x) ss; sources = flat_map (source_of x) ss }

-- a source: a remote call that isn't part of another one
abbrev pub source_here : Facts → Bool → Expr → List ℕ
source_here x called e = cond (is_call x e && not called) (expr_at e ∷ []) []

-- what was read, and what an expression itself reads, where it is part of a remote call or not
abbrev pub itself_read : Facts → Scope → Bool → Reading → Expr → Reading
itself_read x scope called r e = record { nodes = r.nodes ++ read_here x scope e; sources = r.sources ++ source_here x called e }

-- whether a part of an expression is part of a remote call
abbrev pub in_call_of : Facts → Bool → Expr → Bool
in_call_of x called e = is_call x e || called

-- what was read, and what an expression and its parts read
abbrev mutual
  pub expr_read : Facts → Scope → Bool → Reading → Expr → Reading
  expr_read x scope called r (Lit at value) = itself_read x scope called r (Lit at value)
  expr_read x scope called r (Name at name) = itself_read x scope called r (Name at name)
  expr_read x scope called r (This at) = itself_read x scope called r (This at)
  expr_read x scope called r (Unary at op a) =
      expr_read x scope (in_call_of x called (Unary at op a)) (itself_read x scope called r (Unary at op a)) a
  expr_read x scope called r (Binary at op a b) =
      expr_read x scope (in_call_of x called (Binary at op a b)) (expr_read x scope (in_call_of x called (Binary at op a b)) (itself_read x scope called r (Binary at op a b)) a) b
  expr_read x scope called r (Field at a name) =
      expr_read x scope (in_call_of x called (Field at a name)) (itself_read x scope called r (Field at a name)) a
  expr_read x scope called r (Call at a method args) =
      exprs_read x scope (in_call_of x called (Call at a method args)) (expr_read x scope (in_call_of x called (Call at a method args)) (itself_read x scope called r (Call at a method args)) a) args
  expr_read x scope called r (Index at a b) =
      expr_read x scope (in_call_of x called (Index at a b)) (expr_read x scope (in_call_of x called (Index at a b)) (itself_read x scope called r (Index at a b)) a) b
  expr_read x scope called r (New at class args) =
      exprs_read x scope (in_call_of x called (New at class args)) (itself_read x scope called r (New at class args)) args
  expr_read x scope called r (Items at item items) =
      exprs_read x scope (in_call_of x called (Items at item items)) (itself_read x scope called r (Items at item items)) items
  expr_read x scope called r (Taken at step) = itself_read x scope called r (Taken at step)

  pub exprs_read : Facts → Scope → Bool → Reading → Exprs → Reading
  exprs_read x scope called r NoExprs = r
  exprs_read x scope called r (MoreExprs e es) = exprs_read x scope called (expr_read x scope called r e) es

-- what an expression reads, and what is read around it
abbrev pub whole_read : Facts → Scope → Reading → Expr → Reading
whole_read x scope around e = joined (expr_read x scope false nothing e) around

-- what was read, and what the parts of an expression read
abbrev pub parts_read : Facts → Scope → Bool → Reading → Expr → Reading
parts_read x scope called r (Lit at value) = r
parts_read x scope called r (Name at name) = r
parts_read x scope called r (This at) = r
parts_read x scope called r (Unary at op a) = expr_read x scope called r a
parts_read x scope called r (Binary at op a b) = expr_read x scope called (expr_read x scope called r a) b
parts_read x scope called r (Field at a name) = expr_read x scope called r a
parts_read x scope called r (Call at a method args) = exprs_read x scope called (expr_read x scope called r a) args
parts_read x scope called r (Index at a b) = expr_read x scope called (expr_read x scope called r a) b
parts_read x scope called r (New at class args) = exprs_read x scope called r args
parts_read x scope called r (Items at item items) = exprs_read x scope called r items
parts_read x scope called r (Taken at step) = r

-- the scope after a statement, where roles don't count
abbrev pub scope_read : Scope → Stmt → Scope
scope_read scope (Val at name e) = with_variable scope name Role.Plain at
scope_read scope (Var at name e) = with_variable scope name Role.Plain at
scope_read scope (Assign at a b) = scope
scope_read scope (Run at e) = scope
scope_read scope (Print at e) = scope
scope_read scope (Throw at e) = scope
scope_read scope (If at c a b) = scope
scope_read scope (While at c a) = scope
scope_read scope (For at name e a) = scope
scope_read scope (Try at a name b) = scope
scope_read scope (Batch at interface root a) = scope

-- what was read, and what a statement and its blocks read
abbrev mutual
  pub stmt_read : Facts → Scope → Reading → Stmt → Reading
  stmt_read x scope r (Val at name e) = expr_read x scope false r e
  stmt_read x scope r (Var at name e) = expr_read x scope false r e
  stmt_read x scope r (Assign at a b) = expr_read x scope false (expr_read x scope false r a) b
  stmt_read x scope r (Run at e) = expr_read x scope false r e
  stmt_read x scope r (Print at e) = expr_read x scope false r e
  stmt_read x scope r (Throw at e) = expr_read x scope false r e
  stmt_read x scope r (If at c a b) = block_read x scope (block_read x scope (expr_read x scope false r c) a) b
  stmt_read x scope r (While at c a) = block_read x scope (expr_read x scope false r c) a
  stmt_read x scope r (For at name e a) = block_read x (with_variable scope name Role.Plain at) (expr_read x scope false r e) a
  stmt_read x scope r (Try at a name b) = block_read x (with_variable scope name Role.Plain at) (block_read x scope r a) b
  stmt_read x scope r (Batch at interface root a) = block_read x (with_variable scope root Role.Plain at) r a

  pub block_read : Facts → Scope → Reading → Stmts → Reading
  block_read x scope r NoStmts = r
  block_read x scope r (MoreStmts s ss) = block_read x (scope_read scope s) (stmt_read x scope r s) ss
