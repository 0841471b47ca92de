-- The trees that reading gives, by the trees alone: no literal is negative but the least Int directly behind a minus,
-- and no more marks, blocks and types are open than the limits allow.
use Rattle.std.specs.Prelude.{ℕ, ◌≡◌, ◌≤◌, ◌+◌, suc, nat_lt, ℤ, pos, negsuc, Bool, true, false, cond, Option, None, Some}
use Rattle.std.specs.List.{All}
use Rattle.rb_trees.specs.Spelling.{IsName}
use Rattle.rb_trees.specs.declared.code.UnOp.{UnOp}
use Rattle.rb_trees.specs.declared.code.UnOp.TheVariants as unary
use Rattle.rb_trees.specs.declared.code.BinOp.{BinOp}
use Rattle.rb_trees.specs.declared.code.BinOp.TheVariants as binary
use Rattle.rb_trees.specs.declared.values.Value.{Value}
use Rattle.rb_trees.specs.declared.values.Value.TheOpen.{Value-F}
use Rattle.rb_trees.specs.declared.values.Value.TheViews.{out-Value}
use Rattle.rb_trees.specs.mirror.Types as type
use Rattle.rb_trees.specs.mirror.Types.{TypeTree}
use Rattle.rb_trees.specs.mirror.Code.{Expr, Exprs, Lit, Name, This, Unary, Binary, Field, Call, Index, New, Items, Taken, NoExprs, MoreExprs, Stmt, Stmts, Val, Var, Assign, Run, Print, Throw, If, While, For, Try, Batch, NoStmts, MoreStmts}
use Rattle.rb_trees.specs.mirror.Declarations.{Param, Signature, Interface, Body, Method, Class, Program}
use Rattle.rb_trees.specs.printing.Exprs.{level_of, left_level, right_level, operand_level}
use Rattle.rb_meaning_types.specs.Values.{IsText}
use Rattle.rb_meaning_types.specs.Lawful.{IsLawfulType}

-- The flag says that the literal stands directly behind a minus.
abbrev pub IsReadInt : Bool → ℤ → Type 0
IsReadInt minus (pos n) = n ≤ 9223372036854775807
IsReadInt true (negsuc n) = n ≡ 9223372036854775807
IsReadInt false (negsuc n) = ⊥

abbrev pub IsReadForm : Bool → Value-F Value → Type 0
IsReadForm minus (Value-F.Int n) = IsReadInt minus n
IsReadForm minus (Value-F.Bool truth) = Unit {0}
IsReadForm minus (Value-F.Text text) = IsText text
IsReadForm minus _ = ⊥

abbrev pub IsReadLiteral : Bool → Value → Type 0
IsReadLiteral minus value = IsReadForm minus (out-Value value)

-- how many types are open within each other
abbrev pub type_depth : TypeTree → ℕ
type_depth (type.ListOf at item) = suc (type_depth item)
type_depth (type.RowsOf at row) = suc (type_depth row)
type_depth _ = 0

-- A type: at most 64 types are open.
abbrev pub IsReadType : TypeTree → Type 0
IsReadType t = IsLawfulType t × (type_depth t ≤ 64)

-- The type of the items of a list expression: the `List<` before it opens one type more.
abbrev pub IsReadItem : TypeTree → Type 0
IsReadItem t = IsLawfulType t × (suc (type_depth t) ≤ 64)

-- whether an expression at a place of the level stands directly behind the minus before its place: parentheses part them
abbrev pub behind : Bool → ℕ → Expr → Bool
behind minus level e = cond (nat_lt (level_of e) level) false minus

-- whether a minus stands before an operand
abbrev pub before_operand : UnOp → Bool
before_operand unary.Neg = true
before_operand _ = false

abbrev pub before_right : BinOp → Bool
before_right binary.Sub = true
before_right _ = false

abbrev mutual
  -- The flag says that the expression's first token stands directly behind a minus.
  pub IsReadExpr : Bool → Expr → Type 0
  IsReadExpr minus (Lit at value) = IsReadLiteral minus value
  IsReadExpr minus (Name at name) = IsName name
  IsReadExpr minus (This at) = Unit {0}
  IsReadExpr minus (Unary at op a) = IsReadExpr (behind (before_operand op) (operand_level op) a) a
  IsReadExpr minus (Binary at op a b) =
      IsReadExpr (behind minus (left_level op) a) a × IsReadExpr (behind (before_right op) (right_level op) b) b
  IsReadExpr minus (Field at a name) = IsReadExpr (behind minus 7 a) a × IsName name
  IsReadExpr minus (Call at a method args) = IsReadExpr (behind minus 7 a) a × IsName method × AreReadExprs args
  IsReadExpr minus (Index at a b) = IsReadExpr (behind minus 7 a) a × IsReadExpr false b
  IsReadExpr minus (New at class args) = IsName class × AreReadExprs args
  IsReadExpr minus (Items at item items) = IsReadItem item × AreReadExprs items
  IsReadExpr minus (Taken at step) = ⊥

  pub AreReadExprs : Exprs → Type 0
  AreReadExprs NoExprs = Unit {0}
  AreReadExprs (MoreExprs e es) = IsReadExpr false e × AreReadExprs es

-- the marks of an expression at a place of the level, given its own: parentheses are one more
abbrev pub placed_marks : ℕ → Expr → ℕ → ℕ
placed_marks level e own = cond (nat_lt (level_of e) level) (suc own) own

abbrev mutual
  -- how many marks are printed in an expression
  pub marks_of : Expr → ℕ
  marks_of (Unary at op a) = suc (placed_marks (operand_level op) a (marks_of a))
  marks_of (Binary at op a b) = suc (placed_marks (left_level op) a (marks_of a) + placed_marks (right_level op) b (marks_of b))
  marks_of (Field at a name) = suc (placed_marks 7 a (marks_of a))
  marks_of (Call at a method args) = suc (suc (placed_marks 7 a (marks_of a) + marks_of_all args))
  marks_of (Index at a b) = suc (placed_marks 7 a (marks_of a) + marks_of b)
  marks_of (New at class args) = suc (marks_of_all args)
  marks_of (Items at item items) = suc (marks_of_all items)
  marks_of _ = 0

  pub marks_of_all : Exprs → ℕ
  marks_of_all NoExprs = 0
  marks_of_all (MoreExprs e es) = marks_of e + marks_of_all es

-- An outermost expression has at most 200 marks.
abbrev pub IsReadOutermost : Expr → Type 0
IsReadOutermost e = IsReadExpr false e × (marks_of e ≤ 200)

abbrev mutual
  -- The number says how many blocks are open around the statement; at most 64 are.
  pub IsReadStmt : ℕ → Stmt → Type 0
  IsReadStmt blocks (Val at name e) = IsName name × IsReadOutermost e
  IsReadStmt blocks (Var at name e) = IsName name × IsReadOutermost e
  IsReadStmt blocks (Assign at a b) = IsReadOutermost a × IsReadOutermost b
  IsReadStmt blocks (Run at e) = IsReadOutermost e
  IsReadStmt blocks (Print at e) = IsReadOutermost e
  IsReadStmt blocks (Throw at e) = IsReadOutermost e
  IsReadStmt blocks (If at e a b) = IsReadOutermost e × (suc blocks ≤ 64) × AreReadStmts (suc blocks) a × AreReadStmts (suc blocks) b
  IsReadStmt blocks (While at e a) = IsReadOutermost e × (suc blocks ≤ 64) × AreReadStmts (suc blocks) a
  IsReadStmt blocks (For at name e a) = IsName name × IsReadOutermost e × (suc blocks ≤ 64) × AreReadStmts (suc blocks) a
  IsReadStmt blocks (Try at a name b) = IsName name × (suc blocks ≤ 64) × AreReadStmts (suc blocks) a × AreReadStmts (suc blocks) b
  IsReadStmt blocks (Batch at interface root a) = IsName interface × IsName root × (suc blocks ≤ 64) × AreReadStmts (suc blocks) a

  pub AreReadStmts : ℕ → Stmts → Type 0
  AreReadStmts blocks NoStmts = Unit {0}
  AreReadStmts blocks (MoreStmts s ss) = IsReadStmt blocks s × AreReadStmts blocks ss

abbrev pub IsReadReturn : Option Expr → Type 0
IsReadReturn None = Unit {0}
IsReadReturn (Some e) = IsReadOutermost e

-- a body is the first block
abbrev pub IsReadBody : Body → Type 0
IsReadBody b = AreReadStmts 1 b.statements × IsReadReturn b.result

abbrev pub IsReadParam : Param → Type 0
IsReadParam p = IsName p.name × IsReadType p.kind

abbrev pub IsReadSignature : Signature → Type 0
IsReadSignature s = IsName s.name × All IsReadParam s.params × IsReadType s.result

abbrev pub IsReadInterface : Interface → Type 0
IsReadInterface i = IsName i.name × All IsReadSignature i.methods

abbrev pub IsReadMethod : Method → Type 0
IsReadMethod m = IsReadSignature m.signature × IsReadBody m.body

abbrev pub IsReadClass : Class → Type 0
IsReadClass c = IsName c.name × All IsReadParam c.fields × All IsReadMethod c.methods

pub record IsReadable (p : Program) : Type 0 where
  pub interfaces : All IsReadInterface p.interfaces
  pub classes : All IsReadClass p.classes
  pub result : IsReadType p.result
  pub body : IsReadBody p.body
