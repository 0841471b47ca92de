-- Portable and constant expressions, and what holds a remote call or operation.
use Rattle.std.specs.Prelude.{Bool, true, false, ◌&&◌, ◌||◌}
use Rattle.rb_trees.specs.mirror.Code.{Expr, Exprs, Lit, Name, This, Unary, Binary, Field, Call, Index, New, Items, Taken, NoExprs, MoreExprs, Stmt, Stmts, Val, Var, Assign, Run, Print, Throw, If, While, For, Try, Batch, NoStmts, MoreStmts}
use Rattle.rb_meaning_flow.specs.Facts.{Facts, is_remote, over_rows}
use Rattle.rb_meaning_flow.specs.Scopes.{Scope, role_of, is_constant_role, is_list_role, is_portable_role}

-- a portable expression: one that the service can evaluate. Its leaves are literals and variables of a portable
-- role, and above them stand operators, and remote calls. No portable expression is a List, so that each
-- operator in one is on primitives.
abbrev mutual
  pub portable : Facts → Scope → Expr → Bool
  portable x scope (Lit at value) = true
  portable x scope (Name at name) = is_portable_role (role_of scope name)
  portable x scope (This at) = false
  portable x scope (Unary at op a) = portable x scope a
  portable x scope (Binary at op a b) = portable x scope a && portable x scope b
  portable x scope (Field at a name) = false
  portable x scope (Call at a method args) = (is_remote x a && portable x scope a) && all_portable x scope args
  portable x scope (Index at a b) = false
  portable x scope (New at class args) = false
  portable x scope (Items at item items) = false
  portable x scope (Taken at step) = false

  pub all_portable : Facts → Scope → Exprs → Bool
  all_portable x scope NoExprs = true
  all_portable x scope (MoreExprs e es) = portable x scope e && all_portable x scope es

-- an expression of literals, operators and constant variables alone
abbrev pub is_constant : Scope → Expr → Bool
is_constant scope (Lit at value) = true
is_constant scope (Name at name) = is_constant_role (role_of scope name)
is_constant scope (This at) = false
is_constant scope (Unary at op a) = is_constant scope a
is_constant scope (Binary at op a b) = is_constant scope a && is_constant scope b
is_constant scope (Field at a name) = false
is_constant scope (Call at a method args) = false
is_constant scope (Index at a b) = false
is_constant scope (New at class args) = false
is_constant scope (Items at item items) = false
is_constant scope (Taken at step) = false

-- whether a remote call stands in an expression
abbrev mutual
  pub holds_call : Facts → Expr → Bool
  holds_call x (Lit at value) = false
  holds_call x (Name at name) = false
  holds_call x (This at) = false
  holds_call x (Unary at op a) = holds_call x a
  holds_call x (Binary at op a b) = holds_call x a || holds_call x b
  holds_call x (Field at a name) = holds_call x a
  holds_call x (Call at a method args) = (is_remote x a || holds_call x a) || any_holds_call x args
  holds_call x (Index at a b) = holds_call x a || holds_call x b
  holds_call x (New at class args) = any_holds_call x args
  holds_call x (Items at item items) = any_holds_call x items
  holds_call x (Taken at step) = false

  pub any_holds_call : Facts → Exprs → Bool
  any_holds_call x NoExprs = false
  any_holds_call x (MoreExprs e es) = holds_call x e || any_holds_call x es

-- whether a remote operation stands in a statement: a remote call, or a loop over rows
abbrev mutual
  pub holds_operation : Facts → Stmt → Bool
  holds_operation x (Val at name e) = holds_call x e
  holds_operation x (Var at name e) = holds_call x e
  holds_operation x (Assign at a b) = holds_call x a || holds_call x b
  holds_operation x (Run at e) = holds_call x e
  holds_operation x (Print at e) = holds_call x e
  holds_operation x (Throw at e) = holds_call x e
  holds_operation x (If at c a b) = (holds_call x c || block_holds x a) || block_holds x b
  holds_operation x (While at c a) = holds_call x c || block_holds x a
  holds_operation x (For at name e a) = (over_rows x e || holds_call x e) || block_holds x a
  holds_operation x (Try at a name b) = block_holds x a || block_holds x b
  holds_operation x (Batch at interface root a) = block_holds x a

  pub block_holds : Facts → Stmts → Bool
  block_holds x NoStmts = false
  block_holds x (MoreStmts s ss) = holds_operation x s || block_holds x ss

-- whether a branch of an `if` holds a remote operation
abbrev pub branches_hold : Facts → Stmts → Stmts → Bool
branches_hold x a b = block_holds x a || block_holds x b

-- the name of a constant list
abbrev pub is_constant_list : Scope → Expr → Bool
is_constant_list scope (Name at name) = is_list_role (role_of scope name)
is_constant_list scope _ = false

-- a loop that the script can take along: over a constant list, and with a remote operation in its block
abbrev pub may_carry : Facts → Scope → Expr → Stmts → Bool
may_carry x scope list block = is_constant_list scope list && block_holds x block

-- a loop whose turns are the script's, where it stands at a script place
abbrev pub has_far_turns : Facts → Scope → Expr → Stmts → Bool
has_far_turns x scope list block = over_rows x list || may_carry x scope list block
