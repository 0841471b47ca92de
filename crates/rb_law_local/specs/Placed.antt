-- Where the constructs of code stand that may end it by a fault.
use Rattle.std.specs.Prelude.{◌≡◌, ℕ, List, Bool, false, Option, Some, None}
use Rattle.std.specs.List.{All}
use Rattle.rb_trees.specs.mirror.Code.{Expr, Exprs, Lit, Name, This, Unary, Binary, Field, Call, Index, New, Items, Taken, NoExprs, MoreExprs, Stmt, Stmts, Val, Var, Assign, Run, Print, Throw, If, While, For, Try, Batch, NoStmts, MoreStmts}
use Rattle.rb_trees.specs.mirror.Declarations.{Body, Method, Class}

-- the positions, and which expressions are taken as a whole
module _ (Here : ℕ → Type 0) (taken : Expr → Bool) where
  abbrev pub Unless : Expr → Type 0 → Type 0
  Unless e P = taken e ≡ false → P

  abbrev mutual
    pub PlacedExpr : Expr → Type 0
    PlacedExpr (Lit at value) = Unit {0}
    PlacedExpr (Name at name) = Here at
    PlacedExpr (This at) = Here at
    PlacedExpr (Unary at op a) = Unless (Unary at op a) (Here at × PlacedExpr a)
    PlacedExpr (Binary at op a b) = Unless (Binary at op a b) (Here at × PlacedExpr a × PlacedExpr b)
    PlacedExpr (Field at a name) = Here at × PlacedExpr a
    PlacedExpr (Call at a method args) = Unless (Call at a method args) (Here at × PlacedExpr a × PlacedExprs args)
    PlacedExpr (Index at a b) = Here at × PlacedExpr a × PlacedExpr b
    PlacedExpr (New at class args) = Here at × PlacedExprs args
    PlacedExpr (Items at item items) = Here at × PlacedExprs items
    PlacedExpr (Taken at step) = Unit {0}

    pub PlacedExprs : Exprs → Type 0
    PlacedExprs NoExprs = Unit {0}
    PlacedExprs (MoreExprs e es) = PlacedExpr e × PlacedExprs es

  abbrev mutual
    pub PlacedStmt : Stmt → Type 0
    PlacedStmt (Val at name e) = PlacedExpr e
    PlacedStmt (Var at name e) = PlacedExpr e
    PlacedStmt (Assign at a b) = Here at × PlacedExpr a × PlacedExpr b
    PlacedStmt (Run at e) = PlacedExpr e
    PlacedStmt (Print at e) = Here at × PlacedExpr e
    PlacedStmt (Throw at e) = Here at × PlacedExpr e
    PlacedStmt (If at c a b) = Here at × PlacedExpr c × PlacedStmts a × PlacedStmts b
    PlacedStmt (While at c a) = Here at × PlacedExpr c × PlacedStmts a
    PlacedStmt (For at name e a) = Here at × PlacedExpr e × PlacedStmts a
    PlacedStmt (Try at a name b) = PlacedStmts a × PlacedStmts b
    PlacedStmt (Batch at interface root a) = Unit {0}

    pub PlacedStmts : Stmts → Type 0
    PlacedStmts NoStmts = Unit {0}
    PlacedStmts (MoreStmts s ss) = PlacedStmt s × PlacedStmts ss

  abbrev pub PlacedReturn : Option Expr → Type 0
  PlacedReturn None = Unit {0}
  PlacedReturn (Some e) = PlacedExpr e

  abbrev pub PlacedBody : Body → Type 0
  PlacedBody body = PlacedStmts body.statements × PlacedReturn body.result

  abbrev pub PlacedMethod : Method → Type 0
  PlacedMethod m = PlacedBody m.body

  abbrev pub PlacedClass : Class → Type 0
  PlacedClass c = All PlacedMethod c.methods

-- the bodies of methods stand there, in which nothing is taken
abbrev pub PlacedClasses : (ℕ → Type 0) → List Class → Type 0
PlacedClasses Here classes = All (PlacedClass Here (λ e. false)) classes
