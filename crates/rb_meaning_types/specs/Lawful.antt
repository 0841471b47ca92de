-- Lawful programs and services, as a parser gives them: what checking may rely on, whether the
-- program is typed or not.
use Rattle.std.specs.Prelude.{ℕ, ◌<◌, ◌≤◌, ◌^◌, max, suc, List, [], ◌∷◌, ◌++◌, length, nat_eq, Option, Some, None}
use Rattle.std.specs.List.{All, IsDistinct}
use Rattle.rb_trees.specs.Spelling.{IsName}
use Rattle.rb_trees.specs.declared.values.Value.{Value}
use Rattle.rb_trees.specs.declared.values.Value.TheOpen.{Value-F}
use Rattle.rb_trees.specs.declared.values.Value.TheViews.{out-Value}
use Rattle.rb_trees.specs.mirror.Types as type
use Rattle.rb_trees.specs.mirror.Types.{TypeTree}
use Rattle.rb_trees.specs.mirror.Code.{Expr, Exprs, Lit, Name, This, Unary, Binary, Field, Call, Index, New, Items, Taken, NoExprs, MoreExprs, Stmt, Stmts, Val, Var, Assign, Run, Print, Throw, If, While, For, Try, Batch, NoStmts, MoreStmts}
use Rattle.rb_trees.specs.mirror.Declarations.{Param, Signature, Interface, Body, Method, Class, Program}
use Rattle.rb_trees.specs.mirror.Services as service
use Rattle.rb_trees.specs.mirror.Services.{ObjectText, ServiceText}
use Rattle.rb_meaning_types.specs.Values.{IsInt, IsText}

-- A list that a position can count.
abbrev pub IsShort : {A : Type 0} → List A → Type 0
IsShort xs = length xs < 2 ^ 32

-- A literal is an Int, a Bool or a Text, within its limits.
abbrev pub IsLiteralForm : Value-F Value → Type 0
IsLiteralForm (Value-F.Int number) = IsInt number
IsLiteralForm (Value-F.Bool truth) = Unit {0}
IsLiteralForm (Value-F.Text text) = IsText text
IsLiteralForm _ = ⊥

abbrev pub IsLiteral : Value → Type 0
IsLiteral value = IsLiteralForm (out-Value value)

abbrev pub IsLawfulType : TypeTree → Type 0
IsLawfulType (type.Int at) = Unit {0}
IsLawfulType (type.Bool at) = Unit {0}
IsLawfulType (type.Text at) = Unit {0}
IsLawfulType (type.Unit at) = Unit {0}
IsLawfulType (type.Named at name) = IsName name
IsLawfulType (type.ListOf at item) = IsLawfulType item
IsLawfulType (type.RowsOf at row) = IsLawfulType row

abbrev pub expr_count : Exprs → ℕ
expr_count NoExprs = 0
expr_count (MoreExprs e es) = suc (expr_count es)

-- An expression: its names and literals are such, its lists are short, and no value
-- of a script is taken.
abbrev mutual
  pub IsLawfulExpr : Expr → Type 0
  IsLawfulExpr (Lit at value) = IsLiteral value
  IsLawfulExpr (Name at name) = IsName name
  IsLawfulExpr (This at) = Unit {0}
  IsLawfulExpr (Unary at op a) = IsLawfulExpr a
  IsLawfulExpr (Binary at op a b) = IsLawfulExpr a × IsLawfulExpr b
  IsLawfulExpr (Field at a name) = IsLawfulExpr a × IsName name
  IsLawfulExpr (Call at a method args) = IsLawfulExpr a × IsName method × AreLawfulExprs args × (expr_count args < 2 ^ 32)
  IsLawfulExpr (Index at a b) = IsLawfulExpr a × IsLawfulExpr b
  IsLawfulExpr (New at class args) = IsName class × AreLawfulExprs args × (expr_count args < 2 ^ 32)
  IsLawfulExpr (Items at item items) = IsLawfulType item × AreLawfulExprs items × (expr_count items < 2 ^ 32)
  IsLawfulExpr (Taken at step) = ⊥

  pub AreLawfulExprs : Exprs → Type 0
  AreLawfulExprs NoExprs = Unit {0}
  AreLawfulExprs (MoreExprs e es) = IsLawfulExpr e × AreLawfulExprs es

-- How many expressions stand within each other.
abbrev mutual
  pub expr_depth : Expr → ℕ
  expr_depth (Lit at value) = 1
  expr_depth (Name at name) = 1
  expr_depth (This at) = 1
  expr_depth (Unary at op a) = suc (expr_depth a)
  expr_depth (Binary at op a b) = suc (max (expr_depth a) (expr_depth b))
  expr_depth (Field at a name) = suc (expr_depth a)
  expr_depth (Call at a method args) = suc (max (expr_depth a) (exprs_depth args))
  expr_depth (Index at a b) = suc (max (expr_depth a) (expr_depth b))
  expr_depth (New at class args) = suc (exprs_depth args)
  expr_depth (Items at item items) = suc (exprs_depth items)
  expr_depth (Taken at step) = 1

  pub exprs_depth : Exprs → ℕ
  exprs_depth NoExprs = 0
  exprs_depth (MoreExprs e es) = max (expr_depth e) (exprs_depth es)

-- At most 201 expressions stand within each other.
abbrev pub IsShallowExpr : Expr → Type 0
IsShallowExpr e = expr_depth e ≤ 201

abbrev pub stmt_count : Stmts → ℕ
stmt_count NoStmts = 0
stmt_count (MoreStmts s ss) = suc (stmt_count ss)

-- A statement, its expressions and its blocks.
abbrev mutual
  pub IsLawfulStmt : Stmt → Type 0
  IsLawfulStmt (Val at name e) = IsName name × IsLawfulExpr e
  IsLawfulStmt (Var at name e) = IsName name × IsLawfulExpr e
  IsLawfulStmt (Assign at a b) = IsLawfulExpr a × IsLawfulExpr b
  IsLawfulStmt (Run at e) = IsLawfulExpr e
  IsLawfulStmt (Print at e) = IsLawfulExpr e
  IsLawfulStmt (Throw at e) = IsLawfulExpr e
  IsLawfulStmt (If at c a b) = IsLawfulExpr c × IsLawfulBlock a × IsLawfulBlock b
  IsLawfulStmt (While at c a) = IsLawfulExpr c × IsLawfulBlock a
  IsLawfulStmt (For at name e a) = IsName name × IsLawfulExpr e × IsLawfulBlock a
  IsLawfulStmt (Try at a name b) = IsLawfulBlock a × IsName name × IsLawfulBlock b
  IsLawfulStmt (Batch at interface root a) = IsName interface × IsName root × IsLawfulBlock a

  pub AreLawfulStmts : Stmts → Type 0
  AreLawfulStmts NoStmts = Unit {0}
  AreLawfulStmts (MoreStmts s ss) = IsLawfulStmt s × AreLawfulStmts ss

  pub IsLawfulBlock : Stmts → Type 0
  IsLawfulBlock NoStmts = Unit {0}
  IsLawfulBlock (MoreStmts s ss) = IsLawfulStmt s × AreLawfulStmts ss × (suc (stmt_count ss) < 2 ^ 32)

-- How many blocks stand within each other.
abbrev mutual
  pub stmt_depth : Stmt → ℕ
  stmt_depth (Val at name e) = 0
  stmt_depth (Var at name e) = 0
  stmt_depth (Assign at a b) = 0
  stmt_depth (Run at e) = 0
  stmt_depth (Print at e) = 0
  stmt_depth (Throw at e) = 0
  stmt_depth (If at c a b) = suc (max (stmts_depth a) (stmts_depth b))
  stmt_depth (While at c a) = suc (stmts_depth a)
  stmt_depth (For at name e a) = suc (stmts_depth a)
  stmt_depth (Try at a name b) = suc (max (stmts_depth a) (stmts_depth b))
  stmt_depth (Batch at interface root a) = suc (stmts_depth a)

  pub stmts_depth : Stmts → ℕ
  stmts_depth NoStmts = 0
  stmts_depth (MoreStmts s ss) = max (stmt_depth s) (stmts_depth ss)

-- The outermost expressions of a statement and of its blocks are shallow.
abbrev mutual
  pub IsShallowStmt : Stmt → Type 0
  IsShallowStmt (Val at name e) = IsShallowExpr e
  IsShallowStmt (Var at name e) = IsShallowExpr e
  IsShallowStmt (Assign at a b) = IsShallowExpr a × IsShallowExpr b
  IsShallowStmt (Run at e) = IsShallowExpr e
  IsShallowStmt (Print at e) = IsShallowExpr e
  IsShallowStmt (Throw at e) = IsShallowExpr e
  IsShallowStmt (If at c a b) = IsShallowExpr c × AreShallowStmts a × AreShallowStmts b
  IsShallowStmt (While at c a) = IsShallowExpr c × AreShallowStmts a
  IsShallowStmt (For at name e a) = IsShallowExpr e × AreShallowStmts a
  IsShallowStmt (Try at a name b) = AreShallowStmts a × AreShallowStmts b
  IsShallowStmt (Batch at interface root a) = AreShallowStmts a

  pub AreShallowStmts : Stmts → Type 0
  AreShallowStmts NoStmts = Unit {0}
  AreShallowStmts (MoreStmts s ss) = IsShallowStmt s × AreShallowStmts ss

abbrev pub IsLawfulReturn : Option Expr → Type 0
IsLawfulReturn (Some e) = IsLawfulExpr e
IsLawfulReturn None = Unit {0}

abbrev pub IsShallowReturn : Option Expr → Type 0
IsShallowReturn (Some e) = IsShallowExpr e
IsShallowReturn None = Unit {0}

abbrev pub IsLawfulBody : Body → Type 0
IsLawfulBody body = IsLawfulBlock body.statements × IsLawfulReturn body.result

-- A body is a block: at most 64 blocks stand within each other, and its outermost expressions are shallow.
abbrev pub IsShallowBody : Body → Type 0
IsShallowBody body = AreShallowStmts body.statements × IsShallowReturn body.result × (suc (stmts_depth body.statements) ≤ 64)

abbrev pub IsLawfulParam : Param → Type 0
IsLawfulParam p = IsName p.name × IsLawfulType p.kind

abbrev pub IsLawfulSignature : Signature → Type 0
IsLawfulSignature s = IsName s.name × All IsLawfulParam s.params × IsShort s.params × IsLawfulType s.result

abbrev pub IsLawfulMethod : Method → Type 0
IsLawfulMethod m = IsLawfulSignature m.signature × IsLawfulBody m.body

abbrev pub IsLawfulInterface : Interface → Type 0
IsLawfulInterface i = IsName i.name × All IsLawfulSignature i.methods × IsShort i.methods

abbrev pub IsLawfulClass : Class → Type 0
IsLawfulClass c = IsName c.name × All IsLawfulParam c.fields × IsShort c.fields × All IsLawfulMethod c.methods × IsShort c.methods

-- The bodies of a class's methods are shallow.
abbrev pub IsShallowClass : Class → Type 0
IsShallowClass c = All (λ m. IsShallowBody m.body) c.methods

-- The positions of expressions and statements.
abbrev mutual
  pub expr_positions : Expr → List ℕ
  expr_positions (Lit at value) = at ∷ []
  expr_positions (Name at name) = at ∷ []
  expr_positions (This at) = at ∷ []
  expr_positions (Unary at op a) = at ∷ expr_positions a
  expr_positions (Binary at op a b) = at ∷ (expr_positions a ++ expr_positions b)
  expr_positions (Field at a name) = at ∷ expr_positions a
  expr_positions (Call at a method args) = at ∷ (expr_positions a ++ exprs_positions args)
  expr_positions (Index at a b) = at ∷ (expr_positions a ++ expr_positions b)
  expr_positions (New at class args) = at ∷ exprs_positions args
  expr_positions (Items at item items) = at ∷ exprs_positions items
  expr_positions (Taken at step) = at ∷ []

  pub exprs_positions : Exprs → List ℕ
  exprs_positions NoExprs = []
  exprs_positions (MoreExprs e es) = expr_positions e ++ exprs_positions es

abbrev mutual
  pub stmt_positions : Stmt → List ℕ
  stmt_positions (Val at name e) = at ∷ expr_positions e
  stmt_positions (Var at name e) = at ∷ expr_positions e
  stmt_positions (Assign at a b) = at ∷ (expr_positions a ++ expr_positions b)
  stmt_positions (Run at e) = at ∷ expr_positions e
  stmt_positions (Print at e) = at ∷ expr_positions e
  stmt_positions (Throw at e) = at ∷ expr_positions e
  stmt_positions (If at c a b) = at ∷ (expr_positions c ++ stmts_positions a ++ stmts_positions b)
  stmt_positions (While at c a) = at ∷ (expr_positions c ++ stmts_positions a)
  stmt_positions (For at name e a) = at ∷ (expr_positions e ++ stmts_positions a)
  stmt_positions (Try at a name b) = at ∷ (stmts_positions a ++ stmts_positions b)
  stmt_positions (Batch at interface root a) = at ∷ stmts_positions a

  pub stmts_positions : Stmts → List ℕ
  stmts_positions NoStmts = []
  stmts_positions (MoreStmts s ss) = stmt_positions s ++ stmts_positions ss

abbrev pub return_positions : Option Expr → List ℕ
return_positions (Some e) = expr_positions e
return_positions None = []

abbrev pub body_positions : Body → List ℕ
body_positions body = stmts_positions body.statements ++ return_positions body.result

abbrev pub methods_positions : List Method → List ℕ
methods_positions [] = []
methods_positions (m ∷ ms) = body_positions m.body ++ methods_positions ms

abbrev pub classes_positions : List Class → List ℕ
classes_positions [] = []
classes_positions (c ∷ cs) = methods_positions c.methods ++ classes_positions cs

-- A lawful program.
pub record IsLawful (p : Program) : Type 0 where
  pub interfaces : All IsLawfulInterface p.interfaces
  pub interface_count : IsShort p.interfaces
  pub classes : All IsLawfulClass p.classes
  pub class_count : IsShort p.classes
  pub result : IsLawfulType p.result
  pub body : IsLawfulBody p.body
  pub class_depths : All IsShallowClass p.classes
  pub body_depth : IsShallowBody p.body
  pub positions : IsDistinct nat_eq (classes_positions p.classes ++ body_positions p.body)

-- The lawful classes of a service.
pub record IsLawfulService (classes : List Class) : Type 0 where
  pub each : All IsLawfulClass classes
  pub class_count : IsShort classes
  pub depths : All IsShallowClass classes
  pub positions : IsDistinct nat_eq (classes_positions classes)

abbrev pub literal_count : service.Literals → ℕ
literal_count service.NoLiterals = 0
literal_count (service.MoreLiterals l ls) = suc (literal_count ls)

-- A literal of a service's text: its texts are such, and its lists are short.
abbrev mutual
  pub IsLawfulLiteral : service.Literal → Type 0
  IsLawfulLiteral (service.Int number) = IsInt number
  IsLawfulLiteral (service.Bool truth) = Unit {0}
  IsLawfulLiteral (service.Text text) = IsText text
  IsLawfulLiteral (service.Object number) = Unit {0}
  IsLawfulLiteral (service.Items items) = AreLawfulLiterals items × (literal_count items < 2 ^ 32)

  pub AreLawfulLiterals : service.Literals → Type 0
  AreLawfulLiterals service.NoLiterals = Unit {0}
  AreLawfulLiterals (service.MoreLiterals l ls) = IsLawfulLiteral l × AreLawfulLiterals ls

-- A field that an object gives: its name, and what it holds.
abbrev pub IsLawfulGiven : List ℕ × service.Literal → Type 0
IsLawfulGiven given = IsName given.0 × IsLawfulLiteral given.1

abbrev pub IsLawfulObject : ObjectText → Type 0
IsLawfulObject o = IsName o.class × All IsLawfulGiven o.fields × IsShort o.fields

-- The lawful text of a service.
pub record IsLawfulServiceText (t : ServiceText) : Type 0 where
  pub classes : IsLawfulService t.classes
  pub objects : All IsLawfulObject t.objects
  pub object_count : IsShort t.objects
