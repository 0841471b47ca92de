-- The first broken rule in code, by cases: what stands before it is typed by the rules, and it doesn't hold.
use Rattle.std.specs.Prelude.{◌≡◌, ℕ, List, [], ◌∷◌, map, length, true, false, not, ◌||◌, Some, None, Ok}
use Rattle.rb_trees.specs.declared.code.UnOp.{UnOp}
use Rattle.rb_trees.specs.declared.code.BinOp.{BinOp}
use Rattle.rb_trees.specs.mirror.Types.{TypeTree}
use Rattle.rb_trees.specs.mirror.Code.{Expr, Exprs, Lit, Name, This, Unary, Binary, Field, Call, Index, New, Items, Taken, NoExprs, MoreExprs, expr_at, Stmt, Stmts, Val, Var, Assign, Run, Print, Throw, If, While, For, Try, Batch, MoreStmts}
use Rattle.rb_trees.specs.mirror.Declarations.{Signature, Interface, Method, Class}
use Rattle.rb_meaning_types.specs.Kinds.{Kind, Int, Bool, Text, Named, ListOf, RowsOf, kind_of, is_unit, is_list}
use Rattle.rb_meaning_types.specs.Names.{interface_named, class_named, field_named, signature_named, method_named}
use Rattle.rb_meaning_types.specs.Violations.{Violation, UnknownName, NameTaken, WrongType, WrongCount, NotAssignable, NotAllowedHere}
use Rattle.rb_meaning_types.specs.Scopes.{Scope, variable_named, is_free, with_variable}
use Rattle.rb_meaning_types.specs.Operators.{takes_operand, takes_left}
use Rattle.rb_meaning_types.specs.Members.{receiver_interface}
use Rattle.rb_meaning_types.specs.Places.{item_type}
use Rattle.rb_meaning_types.specs.Declared.{Declarations, Context, is_interface}
use Rattle.rb_meaning_types.specs.Statements.{is_assignable, is_printable}
use Rattle.rb_typing_rules.specs.Rules.{HasType, HaveTypes, Leads, AllLead, kinds_of}
use Rattle.rb_typing_rules.specs.Order.{Differ}
use Rattle.rb_typing_rules.specs.BrokenTypes.{BrokenItem}

-- The parts of an expression, in order of evaluation.
abbrev pub parts : Expr → Exprs
parts (Lit at value) = NoExprs
parts (Name at name) = NoExprs
parts (This at) = NoExprs
parts (Unary at op a) = MoreExprs a NoExprs
parts (Binary at op a b) = MoreExprs a (MoreExprs b NoExprs)
parts (Field at a name) = MoreExprs a NoExprs
parts (Call at a method args) = MoreExprs a args
parts (Index at a b) = MoreExprs a (MoreExprs b NoExprs)
parts (New at class args) = args
parts (Items at item es) = es
parts (Taken at step) = NoExprs

-- The first of some expressions whose type isn't the one wanted of it.
pub data Misfit : List Kind → Exprs → List Kind → Violation → Type 0 where
  misfit : (want kind : Kind) (wants kinds : List Kind) (e : Expr) (es : Exprs) → Differ want kind
      → Misfit (want ∷ wants) (MoreExprs e es) (kind ∷ kinds) (WrongType (expr_at e) kind)
  misfit_later : (want : Kind) (wants kinds : List Kind) (e : Expr) (es : Exprs) (v : Violation) → Misfit wants es kinds v
      → Misfit (want ∷ wants) (MoreExprs e es) (want ∷ kinds) v

-- Arguments with these types that don't fit the parameters: they are too many or too few, or the first misfit is there.
pub data Unfit (at : ℕ) (params : List Kind) (args : Exprs) (kinds : List Kind) : Violation → Type 0 where
  number : Differ (length kinds) (length params) → Unfit at params args kinds (WrongCount at)
  wrong_type : (v : Violation) → length kinds ≡ length params → Misfit params args kinds v → Unfit at params args kinds v

-- A type that is of no class.
abbrev pub HasNoClass : Declarations → Kind → Type 0
HasNoClass d (Named name) = class_named d.classes name ≡ None
HasNoClass d _ = Unit {0}

-- The first of an expression's own rules that doesn't hold, where its parts have these types.
pub data BreaksExpr (x : Context) (scope : Scope) : Expr → List Kind → Violation → Type 0 where
  no_variable : (at : ℕ) (name : List ℕ) → variable_named scope name ≡ None → BreaksExpr x scope (Name at name) [] (UnknownName at)
  no_this : (at : ℕ) → x.this ≡ None → BreaksExpr x scope (This at) [] (UnknownName at)
  taken : (at step : ℕ) → BreaksExpr x scope (Taken at step) [] (NotAllowedHere at)
  operand : (at : ℕ) (op : UnOp) (a : Expr) (kind : Kind) → takes_operand op kind ≡ false
      → BreaksExpr x scope (Unary at op a) (kind ∷ []) (WrongType (expr_at a) kind)
  left : (at : ℕ) (op : BinOp) (a b : Expr) (kind other : Kind) → takes_left op kind ≡ false
      → BreaksExpr x scope (Binary at op a b) (kind ∷ other ∷ []) (WrongType (expr_at a) kind)
  right : (at : ℕ) (op : BinOp) (a b : Expr) (kind other : Kind) → takes_left op kind ≡ true → Differ kind other
      → BreaksExpr x scope (Binary at op a b) (kind ∷ other ∷ []) (WrongType (expr_at b) other)
  no_object : (at : ℕ) (a : Expr) (name : List ℕ) (kind : Kind) → HasNoClass x.declared kind
      → BreaksExpr x scope (Field at a name) (kind ∷ []) (WrongType (expr_at a) kind)
  no_field : (at : ℕ) (a : Expr) (name object : List ℕ) (class : Class) → class_named x.declared.classes object ≡ Some class
      → field_named class.fields name ≡ None → BreaksExpr x scope (Field at a name) (Named object ∷ []) (UnknownName at)
  no_receiver : (at : ℕ) (a : Expr) (method : List ℕ) (args : Exprs) (kind : Kind) (kinds : List Kind)
      → receiver_interface x.declared kind ≡ None → HasNoClass x.declared kind
      → BreaksExpr x scope (Call at a method args) (kind ∷ kinds) (WrongType (expr_at a) kind)
  no_signature : (at : ℕ) (a : Expr) (method : List ℕ) (args : Exprs) (receiver : List ℕ) (kinds : List Kind) (interface : Interface)
      → interface_named x.declared.interfaces receiver ≡ Some interface → signature_named interface.methods method ≡ None
      → BreaksExpr x scope (Call at a method args) (Named receiver ∷ kinds) (UnknownName at)
  signature_unfit : (at : ℕ) (a : Expr) (method : List ℕ) (args : Exprs) (receiver : List ℕ) (kinds : List Kind) (interface : Interface) (s : Signature) (v : Violation)
      → interface_named x.declared.interfaces receiver ≡ Some interface → signature_named interface.methods method ≡ Some s
      → Unfit at (kinds_of s.params) args kinds v → BreaksExpr x scope (Call at a method args) (Named receiver ∷ kinds) v
  no_method : (at : ℕ) (a : Expr) (method : List ℕ) (args : Exprs) (receiver : List ℕ) (kinds : List Kind) (class : Class)
      → interface_named x.declared.interfaces receiver ≡ None → class_named x.declared.classes receiver ≡ Some class → method_named class.methods method ≡ None
      → BreaksExpr x scope (Call at a method args) (Named receiver ∷ kinds) (UnknownName at)
  method_unfit : (at : ℕ) (a : Expr) (method : List ℕ) (args : Exprs) (receiver : List ℕ) (kinds : List Kind) (class : Class) (m : Method) (v : Violation)
      → interface_named x.declared.interfaces receiver ≡ None → class_named x.declared.classes receiver ≡ Some class → method_named class.methods method ≡ Some m
      → Unfit at (kinds_of m.signature.params) args kinds v → BreaksExpr x scope (Call at a method args) (Named receiver ∷ kinds) v
  remote_call : (at : ℕ) (a : Expr) (method : List ℕ) (args : Exprs) (receiver : List ℕ) (class : Class) (m : Method)
      → interface_named x.declared.interfaces receiver ≡ None → class_named x.declared.classes receiver ≡ Some class → method_named class.methods method ≡ Some m
      → (x.remote || not m.remote) ≡ false
      → BreaksExpr x scope (Call at a method args) (Named receiver ∷ kinds_of m.signature.params) (NotAllowedHere at)
  no_list : (at : ℕ) (a b : Expr) (kind other : Kind) → is_list kind ≡ false
      → BreaksExpr x scope (Index at a b) (kind ∷ other ∷ []) (WrongType (expr_at a) kind)
  no_index : (at : ℕ) (a b : Expr) (item other : Kind) → Differ Int other
      → BreaksExpr x scope (Index at a b) (ListOf item ∷ other ∷ []) (WrongType (expr_at b) other)
  unknown_class : (at : ℕ) (name : List ℕ) (args : Exprs) (kinds : List Kind) → class_named x.declared.classes name ≡ None
      → BreaksExpr x scope (New at name args) kinds (UnknownName at)
  new_unfit : (at : ℕ) (name : List ℕ) (args : Exprs) (kinds : List Kind) (class : Class) (v : Violation) → class_named x.declared.classes name ≡ Some class
      → Unfit at (kinds_of class.fields) args kinds v → BreaksExpr x scope (New at name args) kinds v
  item_misplaced : (at : ℕ) (item : TypeTree) (es : Exprs) (kinds : List Kind) (v : Violation) → BrokenItem x.declared item v
      → BreaksExpr x scope (Items at item es) kinds v
  wrong_item : (at : ℕ) (item : TypeTree) (es : Exprs) (kinds : List Kind) (v : Violation) → item_type x.declared item ≡ Ok tt
      → Misfit (map (λ k. kind_of item) kinds) es kinds v → BreaksExpr x scope (Items at item es) kinds v

mutual
  -- A violation is the first in an expression: a part has it, or the parts have types and a rule of its own is broken.
  pub data BrokenExpr (x : Context) (scope : Scope) : Expr → Violation → Type 0 where
    in_part : (e : Expr) (v : Violation) → BrokenExprs x scope (parts e) v → BrokenExpr x scope e v
    itself : (e : Expr) (kinds : List Kind) (v : Violation) → HaveTypes x scope (parts e) kinds → BreaksExpr x scope e kinds v
        → BrokenExpr x scope e v

  -- A violation is the first in some expressions: those before the one that has it have types.
  pub data BrokenExprs (x : Context) (scope : Scope) : Exprs → Violation → Type 0 where
    expr_first : (e : Expr) (es : Exprs) (v : Violation) → BrokenExpr x scope e v → BrokenExprs x scope (MoreExprs e es) v
    expr_later : (e : Expr) (es : Exprs) (kind : Kind) (v : Violation) → HasType x scope e kind → BrokenExprs x scope es v
        → BrokenExprs x scope (MoreExprs e es) v

-- The expressions that a statement has itself, not in its blocks.
abbrev pub expressions : Stmt → Exprs
expressions (Val at name e) = MoreExprs e NoExprs
expressions (Var at name e) = MoreExprs e NoExprs
expressions (Assign at a b) = MoreExprs a (MoreExprs b NoExprs)
expressions (Run at e) = MoreExprs e NoExprs
expressions (Print at e) = MoreExprs e NoExprs
expressions (Throw at e) = MoreExprs e NoExprs
expressions (If at c a b) = MoreExprs c NoExprs
expressions (While at c a) = MoreExprs c NoExprs
expressions (For at name e a) = MoreExprs e NoExprs
expressions (Try at a name b) = NoExprs
expressions (Batch at interface root a) = NoExprs

-- A type that is neither a List nor Rows.
abbrev pub HasNoTurns : Kind → Type 0
HasNoTurns (ListOf item) = ⊥
HasNoTurns (RowsOf row) = ⊥
HasNoTurns _ = Unit {0}

-- The first of a statement's own rules that doesn't hold, where its expressions have these types.
pub data BreaksStmt (x : Context) (scope : Scope) : Stmt → List Kind → Violation → Type 0 where
  val_taken : (at : ℕ) (name : List ℕ) (e : Expr) (kind : Kind) → is_free scope name ≡ false
      → BreaksStmt x scope (Val at name e) (kind ∷ []) (NameTaken at)
  val_unit : (at : ℕ) (name : List ℕ) (e : Expr) (kind : Kind) → is_free scope name ≡ true → is_unit kind ≡ true
      → BreaksStmt x scope (Val at name e) (kind ∷ []) (WrongType (expr_at e) kind)
  var_taken : (at : ℕ) (name : List ℕ) (e : Expr) (kind : Kind) → is_free scope name ≡ false
      → BreaksStmt x scope (Var at name e) (kind ∷ []) (NameTaken at)
  var_unit : (at : ℕ) (name : List ℕ) (e : Expr) (kind : Kind) → is_free scope name ≡ true → is_unit kind ≡ true
      → BreaksStmt x scope (Var at name e) (kind ∷ []) (WrongType (expr_at e) kind)
  not_assignable : (at : ℕ) (a b : Expr) (kind other : Kind) → is_assignable scope a ≡ false
      → BreaksStmt x scope (Assign at a b) (kind ∷ other ∷ []) (NotAssignable at)
  other_type : (at : ℕ) (a b : Expr) (kind other : Kind) → is_assignable scope a ≡ true → Differ kind other
      → BreaksStmt x scope (Assign at a b) (kind ∷ other ∷ []) (WrongType (expr_at b) other)
  not_printable : (at : ℕ) (e : Expr) (kind : Kind) → is_printable x.declared kind ≡ false
      → BreaksStmt x scope (Print at e) (kind ∷ []) (WrongType (expr_at e) kind)
  service_print : (at : ℕ) (e : Expr) (kind : Kind) → is_printable x.declared kind ≡ true → x.declared.service ≡ true
      → BreaksStmt x scope (Print at e) (kind ∷ []) (NotAllowedHere at)
  no_text : (at : ℕ) (e : Expr) (kind : Kind) → Differ Text kind → BreaksStmt x scope (Throw at e) (kind ∷ []) (WrongType (expr_at e) kind)
  if_condition : (at : ℕ) (c : Expr) (a b : Stmts) (kind : Kind) → Differ Bool kind
      → BreaksStmt x scope (If at c a b) (kind ∷ []) (WrongType (expr_at c) kind)
  while_condition : (at : ℕ) (c : Expr) (a : Stmts) (kind : Kind) → Differ Bool kind
      → BreaksStmt x scope (While at c a) (kind ∷ []) (WrongType (expr_at c) kind)
  for_taken : (at : ℕ) (name : List ℕ) (e : Expr) (a : Stmts) (kind : Kind) → is_free scope name ≡ false
      → BreaksStmt x scope (For at name e a) (kind ∷ []) (NameTaken at)
  no_turns : (at : ℕ) (name : List ℕ) (e : Expr) (a : Stmts) (kind : Kind) → is_free scope name ≡ true → HasNoTurns kind
      → BreaksStmt x scope (For at name e a) (kind ∷ []) (WrongType (expr_at e) kind)
  root_taken : (at : ℕ) (interface root : List ℕ) (a : Stmts) → is_free scope root ≡ false
      → BreaksStmt x scope (Batch at interface root a) [] (NameTaken at)
  no_interface : (at : ℕ) (interface root : List ℕ) (a : Stmts) → is_free scope root ≡ true → is_interface x.declared interface ≡ false
      → BreaksStmt x scope (Batch at interface root a) [] (UnknownName at)
  no_remote : (at : ℕ) (interface root : List ℕ) (a : Stmts) → is_free scope root ≡ true → is_interface x.declared interface ≡ true → x.remote ≡ false
      → BreaksStmt x scope (Batch at interface root a) [] (NotAllowedHere at)

mutual
  -- A violation is the first in a statement: an expression of it has it, or these have types and a rule of its own is
  -- broken, or its rules hold and a block has it.
  pub data BrokenStmt (x : Context) : Scope → Stmt → Violation → Type 0 where
    in_expression : (scope : Scope) (s : Stmt) (v : Violation) → BrokenExprs x scope (expressions s) v → BrokenStmt x scope s v
    its_rule : (scope : Scope) (s : Stmt) (kinds : List Kind) (v : Violation) → HaveTypes x scope (expressions s) kinds → BreaksStmt x scope s kinds v
        → BrokenStmt x scope s v
    in_then : (scope : Scope) (at : ℕ) (c : Expr) (a b : Stmts) (v : Violation) → HasType x scope c Bool → BrokenStmts x scope a v
        → BrokenStmt x scope (If at c a b) v
    in_else : (scope after : Scope) (at : ℕ) (c : Expr) (a b : Stmts) (v : Violation) → HasType x scope c Bool → AllLead x scope a after
        → BrokenStmts x scope b v → BrokenStmt x scope (If at c a b) v
    in_while : (scope : Scope) (at : ℕ) (c : Expr) (a : Stmts) (v : Violation) → HasType x scope c Bool → BrokenStmts x scope a v
        → BrokenStmt x scope (While at c a) v
    in_items : (scope : Scope) (at : ℕ) (name : List ℕ) (e : Expr) (a : Stmts) (kind : Kind) (v : Violation) → HasType x scope e (ListOf kind)
        → is_free scope name ≡ true → BrokenStmts x (with_variable scope name kind true) a v → BrokenStmt x scope (For at name e a) v
    in_rows : (scope : Scope) (at : ℕ) (name : List ℕ) (e : Expr) (a : Stmts) (kind : Kind) (v : Violation) → HasType x scope e (RowsOf kind)
        → is_free scope name ≡ true → BrokenStmts x (with_variable scope name kind true) a v → BrokenStmt x scope (For at name e a) v
    in_try : (scope : Scope) (at : ℕ) (a : Stmts) (name : List ℕ) (b : Stmts) (v : Violation) → BrokenStmts x scope a v
        → BrokenStmt x scope (Try at a name b) v
    catch_taken : (scope after : Scope) (at : ℕ) (a : Stmts) (name : List ℕ) (b : Stmts) → AllLead x scope a after → is_free scope name ≡ false
        → BrokenStmt x scope (Try at a name b) (NameTaken at)
    in_catch : (scope after : Scope) (at : ℕ) (a : Stmts) (name : List ℕ) (b : Stmts) (v : Violation) → AllLead x scope a after → is_free scope name ≡ true
        → BrokenStmts x (with_variable scope name Text true) b v → BrokenStmt x scope (Try at a name b) v
    in_batch : (scope : Scope) (at : ℕ) (interface root : List ℕ) (a : Stmts) (v : Violation) → is_free scope root ≡ true
        → is_interface x.declared interface ≡ true → x.remote ≡ true → BrokenStmts x (with_variable scope root (Named interface) true) a v
        → BrokenStmt x scope (Batch at interface root a) v

  -- A violation is the first in some statements: those before the one that has it lead to its scope.
  pub data BrokenStmts (x : Context) : Scope → Stmts → Violation → Type 0 where
    stmt_first : (scope : Scope) (s : Stmt) (ss : Stmts) (v : Violation) → BrokenStmt x scope s v → BrokenStmts x scope (MoreStmts s ss) v
    stmt_later : (scope middle : Scope) (s : Stmt) (ss : Stmts) (v : Violation) → Leads x scope s middle → BrokenStmts x middle ss v
        → BrokenStmts x scope (MoreStmts s ss) v
