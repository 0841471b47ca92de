-- The mirror of expressions and statements. Each form has its position first.
use Rattle.std.specs.Prelude.{ℕ, List, [], ◌∷◌}
use Rattle.rb_trees.specs.declared.values.Value.{Value}
use Rattle.rb_trees.specs.declared.code.UnOp.{UnOp}
use Rattle.rb_trees.specs.declared.code.BinOp.{BinOp}
use Rattle.rb_trees.specs.declared.code.Expr as expr
use Rattle.rb_trees.specs.declared.code.ExprForm as expr_form
use Rattle.rb_trees.specs.declared.code.ExprForm.TheOpen.{Expr-F, ExprForm-F}
use Rattle.rb_trees.specs.declared.code.ExprForm.TheFolds.{fold-Expr, fold-ExprForm}
use Rattle.rb_trees.specs.declared.code.Stmt as stmt
use Rattle.rb_trees.specs.declared.code.StmtForm as stmt_form
use Rattle.rb_trees.specs.declared.code.StmtForm.TheOpen.{Stmt-F, StmtForm-F}
use Rattle.rb_trees.specs.declared.code.StmtForm.TheFolds.{fold-Stmt, fold-StmtForm}
use Rattle.rb_trees.specs.mirror.Types.{TypeTree, mirror_type}

mutual
  pub data Expr : Type 0 where
    Lit : (at : ℕ) (value : Value) → Expr
    Name : (at : ℕ) (name : List ℕ) → Expr
    This : (at : ℕ) → Expr
    Unary : (at : ℕ) (op : UnOp) (operand : Expr) → Expr
    Binary : (at : ℕ) (op : BinOp) (left right : Expr) → Expr
    Field : (at : ℕ) (object : Expr) (name : List ℕ) → Expr
    Call : (at : ℕ) (receiver : Expr) (method : List ℕ) (args : Exprs) → Expr
    Index : (at : ℕ) (list index : Expr) → Expr
    New : (at : ℕ) (class : List ℕ) (args : Exprs) → Expr
    Items : (at : ℕ) (item : TypeTree) (items : Exprs) → Expr
    Taken : (at : ℕ) (step : ℕ) → Expr

  pub data Exprs : Type 0 where
    NoExprs : Exprs
    MoreExprs : (first : Expr) (rest : Exprs) → Exprs

mutual
  pub data Stmt : Type 0 where
    Val : (at : ℕ) (name : List ℕ) (value : Expr) → Stmt
    Var : (at : ℕ) (name : List ℕ) (value : Expr) → Stmt
    Assign : (at : ℕ) (left right : Expr) → Stmt
    Run : (at : ℕ) (expr : Expr) → Stmt
    Print : (at : ℕ) (expr : Expr) → Stmt
    Throw : (at : ℕ) (text : Expr) → Stmt
    If : (at : ℕ) (condition : Expr) (then_block else_block : Stmts) → Stmt
    While : (at : ℕ) (condition : Expr) (block : Stmts) → Stmt
    For : (at : ℕ) (name : List ℕ) (list : Expr) (block : Stmts) → Stmt
    Try : (at : ℕ) (tried : Stmts) (name : List ℕ) (handler : Stmts) → Stmt
    Batch : (at : ℕ) (interface root : List ℕ) (block : Stmts) → Stmt

  pub data Stmts : Type 0 where
    NoStmts : Stmts
    MoreStmts : (first : Stmt) (rest : Stmts) → Stmts

-- the items of a list, as a list of the mirror
abbrev pub exprs_from : List Expr → Exprs
exprs_from [] = NoExprs
exprs_from (e ∷ es) = MoreExprs e (exprs_from es)

abbrev pub expr_form_step : ExprForm-F (ℕ → Expr) Expr → ℕ → Expr
expr_form_step (ExprForm-F.Lit value) at = Lit at value
expr_form_step (ExprForm-F.Name name) at = Name at name
expr_form_step ExprForm-F.This at = This at
expr_form_step (ExprForm-F.Unary op a) at = Unary at op a
expr_form_step (ExprForm-F.Binary op a b) at = Binary at op a b
expr_form_step (ExprForm-F.Field a name) at = Field at a name
expr_form_step (ExprForm-F.Call a method args) at = Call at a method (exprs_from args)
expr_form_step (ExprForm-F.Index a b) at = Index at a b
expr_form_step (ExprForm-F.New class args) at = New at class (exprs_from args)
expr_form_step (ExprForm-F.Items item items) at = Items at (mirror_type item) (exprs_from items)
expr_form_step (ExprForm-F.Taken step) at = Taken at step

abbrev pub expr_step : Expr-F (ℕ → Expr) Expr → Expr
expr_step e = e.form e.at

-- an expression in the mirror
unfoldable pub mirror_expr : expr.Expr → Expr
mirror_expr e = fold-Expr (ℕ → Expr) Expr expr_form_step expr_step e

-- the expression of this form at a position
unfoldable pub mirror_expr_form : expr_form.ExprForm → ℕ → Expr
mirror_expr_form f at = fold-ExprForm (ℕ → Expr) Expr expr_form_step expr_step f at

abbrev pub mirror_exprs : List expr.Expr → Exprs
mirror_exprs [] = NoExprs
mirror_exprs (e ∷ es) = MoreExprs (mirror_expr e) (mirror_exprs es)

abbrev pub stmts_from : List Stmt → Stmts
stmts_from [] = NoStmts
stmts_from (s ∷ ss) = MoreStmts s (stmts_from ss)

abbrev pub stmt_form_step : StmtForm-F (ℕ → Stmt) Stmt → ℕ → Stmt
stmt_form_step (StmtForm-F.Val name e) at = Val at name (mirror_expr e)
stmt_form_step (StmtForm-F.Var name e) at = Var at name (mirror_expr e)
stmt_form_step (StmtForm-F.Assign a b) at = Assign at (mirror_expr a) (mirror_expr b)
stmt_form_step (StmtForm-F.Run e) at = Run at (mirror_expr e)
stmt_form_step (StmtForm-F.Print e) at = Print at (mirror_expr e)
stmt_form_step (StmtForm-F.Throw e) at = Throw at (mirror_expr e)
stmt_form_step (StmtForm-F.If e a b) at = If at (mirror_expr e) (stmts_from a) (stmts_from b)
stmt_form_step (StmtForm-F.While e a) at = While at (mirror_expr e) (stmts_from a)
stmt_form_step (StmtForm-F.For name e a) at = For at name (mirror_expr e) (stmts_from a)
stmt_form_step (StmtForm-F.Try a name b) at = Try at (stmts_from a) name (stmts_from b)
stmt_form_step (StmtForm-F.Batch interface root a) at = Batch at interface root (stmts_from a)

abbrev pub stmt_step : Stmt-F (ℕ → Stmt) Stmt → Stmt
stmt_step s = s.form s.at

-- a statement in the mirror
unfoldable pub mirror_stmt : stmt.Stmt → Stmt
mirror_stmt s = fold-Stmt (ℕ → Stmt) Stmt stmt_form_step stmt_step s

-- the statement of this form at a position
unfoldable pub mirror_stmt_form : stmt_form.StmtForm → ℕ → Stmt
mirror_stmt_form f at = fold-StmtForm (ℕ → Stmt) Stmt stmt_form_step stmt_step f at

abbrev pub mirror_stmts : List stmt.Stmt → Stmts
mirror_stmts [] = NoStmts
mirror_stmts (s ∷ ss) = MoreStmts (mirror_stmt s) (mirror_stmts ss)

-- the position of an expression
abbrev pub expr_at : Expr → ℕ
expr_at (Lit at value) = at
expr_at (Name at name) = at
expr_at (This at) = at
expr_at (Unary at op a) = at
expr_at (Binary at op a b) = at
expr_at (Field at a name) = at
expr_at (Call at a method args) = at
expr_at (Index at a b) = at
expr_at (New at class args) = at
expr_at (Items at item items) = at
expr_at (Taken at step) = at

-- the position of a statement
abbrev pub stmt_at : Stmt → ℕ
stmt_at (Val at name e) = at
stmt_at (Var at name e) = at
stmt_at (Assign at a b) = at
stmt_at (Run at e) = at
stmt_at (Print at e) = at
stmt_at (Throw at e) = at
stmt_at (If at e a b) = at
stmt_at (While at e a) = at
stmt_at (For at name e a) = at
stmt_at (Try at a name b) = at
stmt_at (Batch at interface root a) = at
