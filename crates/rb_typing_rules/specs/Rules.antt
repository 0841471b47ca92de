-- The rules of typing by cases. Positions count for nothing: a rule holds at each.
use Rattle.std.specs.Prelude.{◌≡◌, ℕ, List, [], ◌∷◌, map, true, false, not, ◌||◌, Some, None, Ok}
use Rattle.rb_trees.specs.declared.values.Value.{Value}
use Rattle.rb_trees.specs.declared.code.UnOp.{UnOp}
use Rattle.rb_trees.specs.declared.code.BinOp.{BinOp}
use Rattle.rb_trees.specs.mirror.Types.{TypeTree}
use Rattle.rb_trees.specs.mirror.Code.{Expr, Exprs, Lit, Name, This, Unary, Binary, Field, Call, Index, New, Items, NoExprs, MoreExprs, Stmt, Stmts, Val, Var, Assign, Run, Print, Throw, If, While, For, Try, Batch, NoStmts, MoreStmts}
use Rattle.rb_trees.specs.mirror.Declarations.{Param, Signature, Interface, Method, Class}
use Rattle.rb_meaning_types.specs.Kinds.{Kind, Int, Bool, Text, Named, ListOf, RowsOf, kind_of, is_unit}
use Rattle.rb_meaning_types.specs.Names.{interface_named, class_named, field_named, signature_named, method_named}
use Rattle.rb_meaning_types.specs.Declared.{Context, is_interface}
use Rattle.rb_meaning_types.specs.Scopes.{Scope, Variable, variable_named, is_free, with_variable}
use Rattle.rb_meaning_types.specs.Literals.{literal_kind}
use Rattle.rb_meaning_types.specs.Operators.{takes_operand, unary_result, takes_left, binary_result}
use Rattle.rb_meaning_types.specs.Places.{item_type}
use Rattle.rb_meaning_types.specs.Statements.{is_assignable, is_printable}

-- the types of parameters, or of fields
abbrev pub kinds_of : List Param → List Kind
kinds_of params = map (λ p. kind_of p.kind) params

-- each type of a list is one type
abbrev pub AreAll : Kind → List Kind → Type 0
AreAll kind [] = Unit {0}
AreAll kind (k ∷ ks) = (kind ≡ k) × AreAll kind ks

mutual
  -- An expression has a type in a scope.
  pub data HasType (x : Context) (scope : Scope) : Expr → Kind → Type 0 where
    literal : (at : ℕ) (value : Value) → HasType x scope (Lit at value) (literal_kind value)
    variable : (at : ℕ) (name : List ℕ) (v : Variable) → variable_named scope name ≡ Some v → HasType x scope (Name at name) v.kind
    this : (at : ℕ) (class : List ℕ) → x.this ≡ Some class → HasType x scope (This at) (Named class)
    unary : (at : ℕ) (op : UnOp) (a : Expr) (kind : Kind) → HasType x scope a kind → takes_operand op kind ≡ true
        → HasType x scope (Unary at op a) (unary_result op)
    binary : (at : ℕ) (op : BinOp) (a b : Expr) (kind : Kind) → HasType x scope a kind → takes_left op kind ≡ true → HasType x scope b kind
        → HasType x scope (Binary at op a b) (binary_result op kind)
    field : (at : ℕ) (a : Expr) (name object : List ℕ) (class : Class) (f : Param) → HasType x scope a (Named object)
        → class_named x.declared.classes object ≡ Some class → field_named class.fields name ≡ Some f → HasType x scope (Field at a name) (kind_of f.kind)
    interface_call : (at : ℕ) (a : Expr) (method : List ℕ) (args : Exprs) (receiver : List ℕ) (interface : Interface) (s : Signature)
        → HasType x scope a (Named receiver) → HaveTypes x scope args (kinds_of s.params)
        → interface_named x.declared.interfaces receiver ≡ Some interface → signature_named interface.methods method ≡ Some s
        → HasType x scope (Call at a method args) (kind_of s.result)
    class_call : (at : ℕ) (a : Expr) (method : List ℕ) (args : Exprs) (receiver : List ℕ) (class : Class) (m : Method)
        → HasType x scope a (Named receiver) → HaveTypes x scope args (kinds_of m.signature.params)
        → interface_named x.declared.interfaces receiver ≡ None → class_named x.declared.classes receiver ≡ Some class → method_named class.methods method ≡ Some m
        → (x.remote || not m.remote) ≡ true
        → HasType x scope (Call at a method args) (kind_of m.signature.result)
    index : (at : ℕ) (a b : Expr) (kind : Kind) → HasType x scope a (ListOf kind) → HasType x scope b Int → HasType x scope (Index at a b) kind
    new : (at : ℕ) (name : List ℕ) (args : Exprs) (class : Class) → class_named x.declared.classes name ≡ Some class → HaveTypes x scope args (kinds_of class.fields)
        → HasType x scope (New at name args) (Named name)
    items : (at : ℕ) (item : TypeTree) (es : Exprs) (kinds : List Kind) → HaveTypes x scope es kinds → item_type x.declared item ≡ Ok tt
        → AreAll (kind_of item) kinds → HasType x scope (Items at item es) (ListOf (kind_of item))

  -- The expressions of a list have these types, in order.
  pub data HaveTypes (x : Context) (scope : Scope) : Exprs → List Kind → Type 0 where
    none : HaveTypes x scope NoExprs []
    more : (e : Expr) (es : Exprs) (kind : Kind) (kinds : List Kind) → HasType x scope e kind → HaveTypes x scope es kinds
        → HaveTypes x scope (MoreExprs e es) (kind ∷ kinds)

mutual
  -- A statement leads from a scope to a scope.
  pub data Leads (x : Context) : Scope → Stmt → Scope → Type 0 where
    val : (scope : Scope) (at : ℕ) (name : List ℕ) (e : Expr) (kind : Kind) → HasType x scope e kind → is_free scope name ≡ true → is_unit kind ≡ false
        → Leads x scope (Val at name e) (with_variable scope name kind true)
    var : (scope : Scope) (at : ℕ) (name : List ℕ) (e : Expr) (kind : Kind) → HasType x scope e kind → is_free scope name ≡ true → is_unit kind ≡ false
        → Leads x scope (Var at name e) (with_variable scope name kind false)
    assign : (scope : Scope) (at : ℕ) (a b : Expr) (kind : Kind) → HasType x scope a kind → HasType x scope b kind → is_assignable scope a ≡ true
        → Leads x scope (Assign at a b) scope
    run : (scope : Scope) (at : ℕ) (e : Expr) (kind : Kind) → HasType x scope e kind → Leads x scope (Run at e) scope
    print : (scope : Scope) (at : ℕ) (e : Expr) (kind : Kind) → HasType x scope e kind → is_printable x.declared kind ≡ true → x.declared.service ≡ false
        → Leads x scope (Print at e) scope
    throw : (scope : Scope) (at : ℕ) (e : Expr) → HasType x scope e Text → Leads x scope (Throw at e) scope
    branch : (scope after other : Scope) (at : ℕ) (c : Expr) (a b : Stmts) → HasType x scope c Bool → AllLead x scope a after → AllLead x scope b other
        → Leads x scope (If at c a b) scope
    loop : (scope after : Scope) (at : ℕ) (c : Expr) (a : Stmts) → HasType x scope c Bool → AllLead x scope a after → Leads x scope (While at c a) scope
    items_loop : (scope after : Scope) (at : ℕ) (name : List ℕ) (e : Expr) (a : Stmts) (kind : Kind) → HasType x scope e (ListOf kind) → is_free scope name ≡ true
        → AllLead x (with_variable scope name kind true) a after → Leads x scope (For at name e a) scope
    rows_loop : (scope after : Scope) (at : ℕ) (name : List ℕ) (e : Expr) (a : Stmts) (kind : Kind) → HasType x scope e (RowsOf kind) → is_free scope name ≡ true
        → AllLead x (with_variable scope name kind true) a after → Leads x scope (For at name e a) scope
    guarded : (scope after other : Scope) (at : ℕ) (a : Stmts) (name : List ℕ) (b : Stmts) → AllLead x scope a after → is_free scope name ≡ true
        → AllLead x (with_variable scope name Text true) b other → Leads x scope (Try at a name b) scope
    batch : (scope after : Scope) (at : ℕ) (interface root : List ℕ) (a : Stmts) → is_free scope root ≡ true → is_interface x.declared interface ≡ true
        → x.remote ≡ true → AllLead x (with_variable scope root (Named interface) true) a after → Leads x scope (Batch at interface root a) scope

  -- Statements in order: each begins in the scope to which those before it lead.
  pub data AllLead (x : Context) : Scope → Stmts → Scope → Type 0 where
    end : (scope : Scope) → AllLead x scope NoStmts scope
    then : (scope middle after : Scope) (s : Stmt) (ss : Stmts) → Leads x scope s middle → AllLead x middle ss after → AllLead x scope (MoreStmts s ss) after
