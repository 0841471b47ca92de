-- Sites: each statement and each expression of a batch, with all that stands around it.
use Rattle.std.specs.Prelude.{ℕ, List, [], ◌∷◌, ◌++◌, Bool, true, false, cond, ◌&&◌, ◌||◌}
use Rattle.rb_trees.specs.mirror.Code.{Expr, Exprs, Lit, Name, This, Unary, Binary, Field, Call, Index, New, Items, Taken, NoExprs, MoreExprs, Stmt, Stmts, Val, Var, Assign, Run, Print, Throw, If, While, For, Try, Batch, NoStmts, MoreStmts}
use Rattle.rb_meaning_flow.specs.declared.scopes.Role.{Role}
use Rattle.rb_meaning_flow.specs.Facts.{Facts, over_rows}
use Rattle.rb_meaning_flow.specs.Scopes.{Scope, with_variable}
use Rattle.rb_meaning_flow.specs.Portable.{portable, branches_hold, may_carry, has_far_turns}

-- what a statement of a batch stands in, with the scope in which that stands
pub data Around : Type 0 where
  Branch : (at : ℕ) (scope : Scope) (condition : Expr) (then_block else_block : Stmts) → Around
  WhileTurn : (at : ℕ) (scope : Scope) (condition : Expr) → Around
  Turn : (at : ℕ) (scope : Scope) (list : Expr) (block : Stmts) → Around
  InTry : (at : ℕ) (scope : Scope) (tried : Stmts) (name : List ℕ) (handler : Stmts) → Around
  InBatch : (at : ℕ) → Around

-- whether what stands here is a script place: the batch's own block is one; within one, the blocks of loops over
-- rows and of carried loops are, and both blocks of an `if` that hold a remote operation between them; no other
-- block is
abbrev pub is_script_place : Facts → List Around → Bool
is_script_place x [] = true
is_script_place x (Branch at scope c a b ∷ around) = is_script_place x around && branches_hold x a b
is_script_place x (WhileTurn at scope c ∷ around) = false
is_script_place x (Turn at scope list block ∷ around) = is_script_place x around && has_far_turns x scope list block
is_script_place x (InTry at scope tried name handler ∷ around) = false
is_script_place x (InBatch at ∷ around) = false

-- a statement, what it stands in, the innermost first, and the variables in scope
pub record StmtSite : Type 0 where
  pub around : List Around
  pub scope : Scope
  pub stmt : Stmt

-- an expression that another is a part of, and whether that part stands in its right operand
pub record Over : Type 0 where
  pub expr : Expr
  pub right : Bool

-- an expression, those that it is a part of, the nearest first, and the statement whose own it is
pub record ExprSite : Type 0 where
  pub stands : StmtSite
  pub above : List Over
  pub expr : Expr

-- the site of an expression, and what stands above its parts: it, and what stands above it
abbrev pub site : StmtSite → List Over → Expr → ExprSite
site s above e = record { stands = s; above = above; expr = e }

abbrev pub under : Expr → List Over → List Over
under e above = record { expr = e; right = false } ∷ above

abbrev pub right_under : Expr → List Over → List Over
right_under e above = record { expr = e; right = true } ∷ above

-- the sites of an expression and of all its parts
abbrev mutual
  pub expr_sites : StmtSite → List Over → Expr → List ExprSite
  expr_sites s above (Lit at value) = site s above (Lit at value) ∷ []
  expr_sites s above (Name at name) = site s above (Name at name) ∷ []
  expr_sites s above (This at) = site s above (This at) ∷ []
  expr_sites s above (Unary at op a) = site s above (Unary at op a) ∷ expr_sites s (under (Unary at op a) above) a
  expr_sites s above (Binary at op a b) = site s above (Binary at op a b)
      ∷ (expr_sites s (under (Binary at op a b) above) a ++ expr_sites s (right_under (Binary at op a b) above) b)
  expr_sites s above (Field at a name) = site s above (Field at a name) ∷ expr_sites s (under (Field at a name) above) a
  expr_sites s above (Call at a method args) = site s above (Call at a method args)
      ∷ (expr_sites s (under (Call at a method args) above) a ++ exprs_sites s (under (Call at a method args) above) args)
  expr_sites s above (Index at a b) = site s above (Index at a b)
      ∷ (expr_sites s (under (Index at a b) above) a ++ expr_sites s (under (Index at a b) above) b)
  expr_sites s above (New at class args) = site s above (New at class args) ∷ exprs_sites s (under (New at class args) above) args
  expr_sites s above (Items at item items) = site s above (Items at item items) ∷ exprs_sites s (under (Items at item items) above) items
  expr_sites s above (Taken at step) = site s above (Taken at step) ∷ []

  pub exprs_sites : StmtSite → List Over → Exprs → List ExprSite
  exprs_sites s above NoExprs = []
  exprs_sites s above (MoreExprs e es) = expr_sites s above e ++ exprs_sites s above es

-- the outermost expressions of a statement
abbrev pub own : Stmt → List Expr
own (Val at name e) = e ∷ []
own (Var at name e) = e ∷ []
own (Assign at a b) = a ∷ b ∷ []
own (Run at e) = e ∷ []
own (Print at e) = e ∷ []
own (Throw at e) = e ∷ []
own (If at c a b) = c ∷ []
own (While at c a) = c ∷ []
own (For at name e a) = e ∷ []
own (Try at a name b) = []
own (Batch at interface root a) = []

abbrev pub all_sites : StmtSite → List Expr → List ExprSite
all_sites s [] = []
all_sites s (e ∷ es) = expr_sites s [] e ++ all_sites s es

-- a val is carried where it stands at a script place and what it binds is portable
abbrev pub val_role : Facts → List Around → Scope → Expr → Role
val_role x around scope e = cond (is_script_place x around && portable x scope e) Role.Carried Role.Plain

-- the variable of a loop over rows is a row, and so is that of a carried loop, which stands at a script place
abbrev pub turn_role : Facts → List Around → Scope → Expr → Stmts → Role
turn_role x around scope list block = cond (over_rows x list || (is_script_place x around && may_carry x scope list block)) Role.Row Role.Plain

-- the variables in scope after a statement
abbrev pub scope_after : Facts → List Around → Scope → Stmt → Scope
scope_after x around scope (Val at name e) = with_variable scope name (val_role x around scope e) at
scope_after x around scope (Var at name e) = with_variable scope name Role.Plain at
scope_after x around scope _ = scope

-- the site of a statement
abbrev pub stmt_site : List Around → Scope → Stmt → StmtSite
stmt_site around scope s = record { around = around; scope = scope; stmt = s }

-- the sites of a statement and of those in its blocks
abbrev mutual
  pub sites : Facts → List Around → Scope → Stmt → List StmtSite
  sites x around scope (Val at name e) = stmt_site around scope (Val at name e) ∷ []
  sites x around scope (Var at name e) = stmt_site around scope (Var at name e) ∷ []
  sites x around scope (Assign at a b) = stmt_site around scope (Assign at a b) ∷ []
  sites x around scope (Run at e) = stmt_site around scope (Run at e) ∷ []
  sites x around scope (Print at e) = stmt_site around scope (Print at e) ∷ []
  sites x around scope (Throw at e) = stmt_site around scope (Throw at e) ∷ []
  sites x around scope (If at c a b) = stmt_site around scope (If at c a b)
      ∷ (block_sites x (Branch at scope c a b ∷ around) scope a ++ block_sites x (Branch at scope c a b ∷ around) scope b)
  sites x around scope (While at c a) = stmt_site around scope (While at c a) ∷ block_sites x (WhileTurn at scope c ∷ around) scope a
  sites x around scope (For at name e a) = stmt_site around scope (For at name e a)
      ∷ block_sites x (Turn at scope e a ∷ around) (with_variable scope name (turn_role x around scope e a) at) a
  sites x around scope (Try at a name b) = stmt_site around scope (Try at a name b)
      ∷ (block_sites x (InTry at scope a name b ∷ around) scope a
      ++ block_sites x (InTry at scope a name b ∷ around) (with_variable scope name Role.Plain at) b)
  sites x around scope (Batch at interface root a) = stmt_site around scope (Batch at interface root a)
      ∷ block_sites x (InBatch at ∷ around) (with_variable scope root Role.Plain at) a

  pub block_sites : Facts → List Around → Scope → Stmts → List StmtSite
  block_sites x around scope NoStmts = []
  block_sites x around scope (MoreStmts s ss) = sites x around scope s ++ block_sites x around (scope_after x around scope s) ss

-- the expressions of some statements
abbrev pub exprs_of : List StmtSite → List ExprSite
exprs_of [] = []
exprs_of (s ∷ ss) = all_sites s (own s.stmt) ++ exprs_of ss
