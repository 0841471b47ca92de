-- Whether an expression stands at a position of a program: by cases on the tree, an expression behind its parts.
use Rattle.std.specs.Prelude.{◌≡◌, ℕ, List, [], ◌∷◌, Bool, false, ◌||◌, nat_eq, Option, Some, None}
use Rattle.std.specs.Option.{is_some}
use Rattle.rb_trees.specs.mirror.Code.{Expr, Exprs, Lit, Name, This, Unary, Binary, Field, Call, Index, New, Items, Taken, NoExprs, MoreExprs, Stmt, Stmts, Val, Var, Assign, Run, Print, Throw, If, While, For, Try, Batch, NoStmts, MoreStmts}
use Rattle.rb_trees.specs.mirror.Declarations.{Body, Method, Class, Program}
use Rattle.rb_meaning_types.specs.Notes.{type_at}

abbrev mutual
  pub in_expr : ℕ → Expr → Bool
  in_expr at (Lit here value) = nat_eq here at
  in_expr at (Name here name) = nat_eq here at
  in_expr at (This here) = nat_eq here at
  in_expr at (Unary here op a) = in_expr at a || nat_eq here at
  in_expr at (Binary here op a b) = in_expr at a || in_expr at b || nat_eq here at
  in_expr at (Field here a name) = in_expr at a || nat_eq here at
  in_expr at (Call here a method args) = in_expr at a || in_exprs at args || nat_eq here at
  in_expr at (Index here a b) = in_expr at a || in_expr at b || nat_eq here at
  in_expr at (New here class args) = in_exprs at args || nat_eq here at
  in_expr at (Items here item items) = in_exprs at items || nat_eq here at
  in_expr at (Taken here step) = nat_eq here at

  pub in_exprs : ℕ → Exprs → Bool
  in_exprs at NoExprs = false
  in_exprs at (MoreExprs e es) = in_expr at e || in_exprs at es

abbrev mutual
  pub in_stmt : ℕ → Stmt → Bool
  in_stmt at (Val here name e) = in_expr at e
  in_stmt at (Var here name e) = in_expr at e
  in_stmt at (Assign here a b) = in_expr at a || in_expr at b
  in_stmt at (Run here e) = in_expr at e
  in_stmt at (Print here e) = in_expr at e
  in_stmt at (Throw here e) = in_expr at e
  in_stmt at (If here c a b) = in_expr at c || in_stmts at a || in_stmts at b
  in_stmt at (While here c a) = in_expr at c || in_stmts at a
  in_stmt at (For here name e a) = in_expr at e || in_stmts at a
  in_stmt at (Try here a name b) = in_stmts at a || in_stmts at b
  in_stmt at (Batch here interface root a) = in_stmts at a

  pub in_stmts : ℕ → Stmts → Bool
  in_stmts at NoStmts = false
  in_stmts at (MoreStmts s ss) = in_stmt at s || in_stmts at ss

abbrev pub in_return : ℕ → Option Expr → Bool
in_return at (Some e) = in_expr at e
in_return at None = false

abbrev pub in_body : ℕ → Body → Bool
in_body at body = in_stmts at body.statements || in_return at body.result

abbrev pub in_methods : ℕ → List Method → Bool
in_methods at [] = false
in_methods at (m ∷ ms) = in_body at m.body || in_methods at ms

abbrev pub in_classes : ℕ → List Class → Bool
in_classes at [] = false
in_classes at (c ∷ cs) = in_methods at c.methods || in_classes at cs

-- whether an expression of a program's bodies stands at a position
abbrev pub stands_at : Program → ℕ → Bool
stands_at p at = in_classes at p.classes || in_body at p.body

-- A position has a type exactly where an expression stands there.
abbrev pub TypesStand : Type 0
TypesStand = (p : Program) (at : ℕ) → is_some (type_at p at) ≡ stands_at p at
