-- A program without its positions: each is 0. Two programs are the same but for positions exactly where these are equal.
use Rattle.std.specs.Prelude.{map}
use Rattle.std.specs.Option.{option_map}
use Rattle.rb_trees.specs.mirror.Types as type
use Rattle.rb_trees.specs.mirror.Types.{TypeTree}
use Rattle.rb_trees.specs.mirror.Code.{Expr, Exprs, Lit, Name, This, Unary, Binary, Field, Call, Index, New, Items, Taken, NoExprs, MoreExprs, Stmt, Stmts, Val, Var, Assign, Run, Print, Throw, If, While, For, Try, Batch, NoStmts, MoreStmts}
use Rattle.rb_trees.specs.mirror.Declarations.{Param, Signature, Interface, Body, Method, Class, Program}

abbrev pub unplaced_type : TypeTree → TypeTree
unplaced_type (type.Int at) = type.Int 0
unplaced_type (type.Bool at) = type.Bool 0
unplaced_type (type.Text at) = type.Text 0
unplaced_type (type.Unit at) = type.Unit 0
unplaced_type (type.Named at name) = type.Named 0 name
unplaced_type (type.ListOf at item) = type.ListOf 0 (unplaced_type item)
unplaced_type (type.RowsOf at row) = type.RowsOf 0 (unplaced_type row)

abbrev mutual
  pub unplaced_expr : Expr → Expr
  unplaced_expr (Lit at value) = Lit 0 value
  unplaced_expr (Name at name) = Name 0 name
  unplaced_expr (This at) = This 0
  unplaced_expr (Unary at op a) = Unary 0 op (unplaced_expr a)
  unplaced_expr (Binary at op a b) = Binary 0 op (unplaced_expr a) (unplaced_expr b)
  unplaced_expr (Field at a name) = Field 0 (unplaced_expr a) name
  unplaced_expr (Call at a method args) = Call 0 (unplaced_expr a) method (unplaced_exprs args)
  unplaced_expr (Index at a b) = Index 0 (unplaced_expr a) (unplaced_expr b)
  unplaced_expr (New at class args) = New 0 class (unplaced_exprs args)
  unplaced_expr (Items at item items) = Items 0 (unplaced_type item) (unplaced_exprs items)
  unplaced_expr (Taken at step) = Taken 0 step

  pub unplaced_exprs : Exprs → Exprs
  unplaced_exprs NoExprs = NoExprs
  unplaced_exprs (MoreExprs e es) = MoreExprs (unplaced_expr e) (unplaced_exprs es)

abbrev mutual
  pub unplaced_stmt : Stmt → Stmt
  unplaced_stmt (Val at name e) = Val 0 name (unplaced_expr e)
  unplaced_stmt (Var at name e) = Var 0 name (unplaced_expr e)
  unplaced_stmt (Assign at a b) = Assign 0 (unplaced_expr a) (unplaced_expr b)
  unplaced_stmt (Run at e) = Run 0 (unplaced_expr e)
  unplaced_stmt (Print at e) = Print 0 (unplaced_expr e)
  unplaced_stmt (Throw at e) = Throw 0 (unplaced_expr e)
  unplaced_stmt (If at e a b) = If 0 (unplaced_expr e) (unplaced_stmts a) (unplaced_stmts b)
  unplaced_stmt (While at e a) = While 0 (unplaced_expr e) (unplaced_stmts a)
  unplaced_stmt (For at name e a) = For 0 name (unplaced_expr e) (unplaced_stmts a)
  unplaced_stmt (Try at a name b) = Try 0 (unplaced_stmts a) name (unplaced_stmts b)
  unplaced_stmt (Batch at interface root a) = Batch 0 interface root (unplaced_stmts a)

  pub unplaced_stmts : Stmts → Stmts
  unplaced_stmts NoStmts = NoStmts
  unplaced_stmts (MoreStmts s ss) = MoreStmts (unplaced_stmt s) (unplaced_stmts ss)

abbrev pub unplaced_body : Body → Body
unplaced_body b = record { statements = unplaced_stmts b.statements; result = option_map unplaced_expr b.result }

abbrev pub unplaced_param : Param → Param
unplaced_param p = record { name = p.name; at = 0; kind = unplaced_type p.kind }

abbrev pub unplaced_signature : Signature → Signature
unplaced_signature s = record { name = s.name; at = 0; params = map unplaced_param s.params; result = unplaced_type s.result }

abbrev pub unplaced_interface : Interface → Interface
unplaced_interface i = record { name = i.name; at = 0; methods = map unplaced_signature i.methods }

abbrev pub unplaced_method : Method → Method
unplaced_method m = record { remote = m.remote; signature = unplaced_signature m.signature; body = unplaced_body m.body }

abbrev pub unplaced_class : Class → Class
unplaced_class c = record { name = c.name; at = 0; fields = map unplaced_param c.fields; methods = map unplaced_method c.methods }

abbrev pub unplaced : Program → Program
unplaced p = record {
  interfaces = map unplaced_interface p.interfaces;
  classes = map unplaced_class p.classes;
  result = unplaced_type p.result;
  body = unplaced_body p.body;
  at = 0;
}
