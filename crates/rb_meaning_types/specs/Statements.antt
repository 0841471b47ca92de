-- What a statement does to the scope, or the first violation. A statement's own expressions go first,
-- then its own rules, then its blocks. A scope ends with its block.
use Rattle.std.specs.Prelude.{ℕ, List, Bool as Truth, true, false, not, Option, Some, None, Ok, Err}
use Rattle.rb_trees.specs.mirror.Code.{Expr, Stmt, Stmts, Name, Field, Val, Var, Assign, Run, Print, Throw, If, While, For, Try, Batch, NoStmts, MoreStmts, expr_at}
use Rattle.rb_meaning_types.specs.Kinds.{Kind, Int, Bool, Text, Unit as UnitKind, Named, ListOf, RowsOf, is_unit}
use Rattle.rb_meaning_types.specs.Declared.{Declarations, Context, is_interface}
use Rattle.rb_meaning_types.specs.Violations.{Checked, Placed, UnknownName, NameTaken, NotAssignable, NotAllowedHere, wanted, wrong_type, with_place}
use Rattle.rb_trees.specs.Outcome.{◌>>=◌, ◌>>◌, must}
use Rattle.rb_meaning_types.specs.Scopes.{Scope, Variable, variable_named, is_free, with_variable}
use Rattle.rb_meaning_types.specs.Expressions.{type_of}

-- an expression's type, at its position
abbrev pub placed : Context → Scope → Expr → Checked Placed
placed x scope e = with_place (expr_at e) (type_of x scope e)

-- a condition is a Bool
abbrev pub condition : Context → Scope → Expr → Checked (Unit {0})
condition x scope e = placed x scope e >>= λ p. wanted Bool p

-- `val` and `var`: the name is free, and the initialiser isn't Unit
abbrev pub declare : Scope → ℕ → List ℕ → Truth → Placed → Checked Scope
declare scope at name fixed p = must (is_free scope name) (NameTaken at) >> must (not (is_unit p.kind)) (wrong_type p)
    >> Ok (with_variable scope name p.kind fixed)

abbrev pub is_open_variable : Option Variable → Truth
is_open_variable (Some v) = not v.fixed
is_open_variable None = false

-- what stands left of `=`: a `var`, or a field
abbrev pub is_assignable : Scope → Expr → Truth
is_assignable scope (Name at name) = is_open_variable (variable_named scope name)
is_assignable scope (Field at object name) = true
is_assignable scope _ = false

abbrev pub assign : Scope → ℕ → Expr → Placed → Placed → Checked Scope
assign scope at left p q = must (is_assignable scope left) (NotAssignable at) >> wanted p.kind q >> Ok scope

-- `print` takes a primitive type, an interface or Rows
abbrev pub is_printable : Declarations → Kind → Truth
is_printable d Int = true
is_printable d Bool = true
is_printable d Text = true
is_printable d UnitKind = false
is_printable d (Named name) = is_interface d name
is_printable d (ListOf item) = false
is_printable d (RowsOf row) = true

-- a service prints nothing
abbrev pub print : Declarations → Scope → ℕ → Placed → Checked Scope
print d scope at p = must (is_printable d p.kind) (wrong_type p) >> must (not d.service) (NotAllowedHere at) >> Ok scope

-- what a loop goes over: the items of a List, or the rows of Rows
abbrev pub turn_kind : Placed → Kind → Checked Kind
turn_kind p (ListOf item) = Ok item
turn_kind p (RowsOf row) = Ok row
turn_kind p _ = Err (wrong_type p)

-- a loop's variable: its name is free
abbrev pub loop_scope : Scope → ℕ → List ℕ → Placed → Checked Scope
loop_scope scope at name p = must (is_free scope name) (NameTaken at) >> turn_kind p p.kind >>= λ item. Ok (with_variable scope name item true)

-- the name of a fault that is caught stands for its text
abbrev pub catch_scope : Scope → ℕ → List ℕ → Checked Scope
catch_scope scope at name = must (is_free scope name) (NameTaken at) >> Ok (with_variable scope name Text true)

-- the root of a batch: its name is free, it is of an interface, and the batch stands in `main` or in a
-- `remote` method
abbrev pub batch_scope : Context → Scope → ℕ → List ℕ → List ℕ → Checked Scope
batch_scope x scope at interface root = must (is_free scope root) (NameTaken at)
    >> must (is_interface x.declared interface) (UnknownName at) >> must x.remote (NotAllowedHere at)
    >> Ok (with_variable scope root (Named interface) true)

-- the scope of before, after blocks that were checked
abbrev pub closed : Scope → Checked Scope → Checked Scope
closed scope (Ok inner) = Ok scope
closed scope (Err fault) = Err fault

abbrev mutual
  pub check_stmt : Context → Scope → Stmt → Checked Scope
  check_stmt x scope (Val at name e) = placed x scope e >>= λ p. declare scope at name true p
  check_stmt x scope (Var at name e) = placed x scope e >>= λ p. declare scope at name false p
  check_stmt x scope (Assign at a b) = placed x scope a >>= λ p. placed x scope b >>= λ q. assign scope at a p q
  check_stmt x scope (Run at e) = placed x scope e >>= λ p. Ok scope
  check_stmt x scope (Print at e) = placed x scope e >>= λ p. print x.declared scope at p
  check_stmt x scope (Throw at e) = placed x scope e >>= λ p. wanted Text p >> Ok scope
  check_stmt x scope (If at c a b) = condition x scope c >> closed scope (check_stmts x scope a) >>= λ s. closed scope (check_stmts x scope b)
  check_stmt x scope (While at c a) = condition x scope c >> closed scope (check_stmts x scope a)
  check_stmt x scope (For at name e a) = placed x scope e >>= λ p. loop_scope scope at name p >>= λ inner. closed scope (check_stmts x inner a)
  check_stmt x scope (Try at a name b) = closed scope (check_stmts x scope a) >>= λ s. catch_scope scope at name >>= λ inner. closed scope (check_stmts x inner b)
  check_stmt x scope (Batch at interface root a) = batch_scope x scope at interface root >>= λ inner. closed scope (check_stmts x inner a)

  -- statements in order: each sees the scope that those before it leave
  pub check_stmts : Context → Scope → Stmts → Checked Scope
  check_stmts x scope NoStmts = Ok scope
  check_stmts x scope (MoreStmts s ss) = check_stmt x scope s >>= λ after. check_stmts x after ss
