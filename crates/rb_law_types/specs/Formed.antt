-- Code whose literals are primitive and within their limits, and which reads no variable of the name `this`.
use Rattle.std.specs.Prelude.{◌≡◌, List, false, Option, Some, None}
use Rattle.std.specs.List.{All}
use Rattle.std.specs.Str.{bytes_eq}
use Rattle.rb_trees.specs.mirror.Code.{Expr, Exprs, Lit, Name, This, Unary, Binary, Field, Call, Index, New, Items, Taken, NoExprs, MoreExprs, Stmt, Stmts, Val, Var, Assign, Run, Print, Throw, If, While, For, Try, Batch, NoStmts, MoreStmts}
use Rattle.rb_trees.specs.mirror.Declarations.{Body, Method, Class}
use Rattle.rb_meaning_types.specs.Fits.{this_name}
use Rattle.rb_meaning_types.specs.Lawful.{IsLawfulExpr, AreLawfulStmts, IsLawfulClass}
use Rattle.rb_law_types.specs.Kept.{IsPrimitive}

abbrev mutual
  pub IsFormedExpr : Expr → Type 0
  IsFormedExpr (Lit at value) = IsPrimitive value
  IsFormedExpr (Name at name) = bytes_eq this_name name ≡ false
  IsFormedExpr (This at) = Unit {0}
  IsFormedExpr (Unary at op a) = IsFormedExpr a
  IsFormedExpr (Binary at op a b) = IsFormedExpr a × IsFormedExpr b
  IsFormedExpr (Field at a name) = IsFormedExpr a
  IsFormedExpr (Call at a method args) = IsFormedExpr a × AreFormedExprs args
  IsFormedExpr (Index at a b) = IsFormedExpr a × IsFormedExpr b
  IsFormedExpr (New at class args) = AreFormedExprs args
  IsFormedExpr (Items at item items) = AreFormedExprs items
  IsFormedExpr (Taken at step) = Unit {0}

  pub AreFormedExprs : Exprs → Type 0
  AreFormedExprs NoExprs = Unit {0}
  AreFormedExprs (MoreExprs e es) = IsFormedExpr e × AreFormedExprs es

-- the body of a batch is performed by what surrounds the code
abbrev mutual
  pub IsFormedStmt : Stmt → Type 0
  IsFormedStmt (Val at name e) = IsFormedExpr e
  IsFormedStmt (Var at name e) = IsFormedExpr e
  IsFormedStmt (Assign at a b) = IsFormedExpr a × IsFormedExpr b
  IsFormedStmt (Run at e) = IsFormedExpr e
  IsFormedStmt (Print at e) = IsFormedExpr e
  IsFormedStmt (Throw at e) = IsFormedExpr e
  IsFormedStmt (If at c a b) = IsFormedExpr c × AreFormedStmts a × AreFormedStmts b
  IsFormedStmt (While at c a) = IsFormedExpr c × AreFormedStmts a
  IsFormedStmt (For at name e a) = IsFormedExpr e × AreFormedStmts a
  IsFormedStmt (Try at a name b) = AreFormedStmts a × AreFormedStmts b
  IsFormedStmt (Batch at interface root a) = Unit {0}

  pub AreFormedStmts : Stmts → Type 0
  AreFormedStmts NoStmts = Unit {0}
  AreFormedStmts (MoreStmts s ss) = IsFormedStmt s × AreFormedStmts ss

abbrev pub IsFormedReturn : Option Expr → Type 0
IsFormedReturn None = Unit {0}
IsFormedReturn (Some e) = IsFormedExpr e

abbrev pub IsFormedBody : Body → Type 0
IsFormedBody body = AreFormedStmts body.statements × IsFormedReturn body.result

abbrev pub IsFormedMethod : Method → Type 0
IsFormedMethod m = IsFormedBody m.body

abbrev pub IsFormedClass : Class → Type 0
IsFormedClass c = All IsFormedMethod c.methods

-- so are the bodies of all methods of classes
abbrev pub AreFormed : List Class → Type 0
AreFormed classes = All IsFormedClass classes

-- Lawful code is formed.
abbrev pub LawfulExprsAreFormed : Type 0
LawfulExprsAreFormed = (e : Expr) → IsLawfulExpr e → IsFormedExpr e

abbrev pub LawfulStmtsAreFormed : Type 0
LawfulStmtsAreFormed = (ss : Stmts) → AreLawfulStmts ss → AreFormedStmts ss

abbrev pub LawfulClassesAreFormed : Type 0
LawfulClassesAreFormed = (classes : List Class) → All IsLawfulClass classes → AreFormed classes
