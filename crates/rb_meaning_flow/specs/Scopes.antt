-- The variables in scope: they stand in order of binding, new ones at the end. Outside batches a variable
-- counts as constant where it is primitive, or a List of primitives.
use Rattle.std.specs.Prelude.{ℕ, List, [], ◌∷◌, ◌++◌, map, Bool, true, false, not, cond, ◌&&◌, ◌||◌, Option, Some, None}
use Rattle.rb_trees.specs.Named.{first_named}
use Rattle.rb_trees.specs.mirror.Code.{Expr, Name, Stmt, Stmts, Val, Var, Assign, Run, Print, Throw, If, While, For, Try, Batch, NoStmts, MoreStmts}
use Rattle.rb_meaning_types.specs.Names.{is_new}
use Rattle.rb_meaning_flow.specs.declared.scopes.Role.{Role}
use Rattle.rb_meaning_flow.specs.declared.scopes.Variable.{Variable}

abbrev pub Scope : Type 0
Scope = List Variable

abbrev pub variable_named : Scope → List ℕ → Option Variable
variable_named scope name = first_named (λ v. v.name) scope name

-- the scope with one more variable
abbrev pub with_variable : Scope → List ℕ → Role → ℕ → Scope
with_variable scope name role node = scope ++ record { name = name; role = role; node = node } ∷ []

abbrev pub role_in : Option Variable → Role
role_in (Some v) = v.role
role_in None = Role.Plain

-- what the variable of a name is to the batch
abbrev pub role_of : Scope → List ℕ → Role
role_of scope name = role_in (variable_named scope name)

abbrev pub node_in : Option Variable → List ℕ
node_in (Some v) = v.node ∷ []
node_in None = []

-- the node of the variable of a name
abbrev pub node_of : Scope → List ℕ → List ℕ
node_of scope name = node_in (variable_named scope name)

abbrev pub is_constant_role : Role → Bool
is_constant_role Role.Constant = true
is_constant_role Role.ConstantList = false
is_constant_role Role.Root = false
is_constant_role Role.Row = false
is_constant_role Role.Carried = false
is_constant_role Role.Plain = false

abbrev pub is_list_role : Role → Bool
is_list_role Role.ConstantList = true
is_list_role Role.Constant = false
is_list_role Role.Root = false
is_list_role Role.Row = false
is_list_role Role.Carried = false
is_list_role Role.Plain = false

-- constant variables, the root, row variables and carried vals are portable
abbrev pub is_portable_role : Role → Bool
is_portable_role Role.Constant = true
is_portable_role Role.ConstantList = false
is_portable_role Role.Root = true
is_portable_role Role.Row = true
is_portable_role Role.Carried = true
is_portable_role Role.Plain = false

-- the variable that stands left of a `=`
abbrev pub assigned_variable : Expr → List (List ℕ)
assigned_variable (Name at name) = name ∷ []
assigned_variable _ = []

-- the variables that are assigned in a statement
abbrev mutual
  pub assigned_by : Stmt → List (List ℕ)
  assigned_by (Val at name e) = []
  assigned_by (Var at name e) = []
  assigned_by (Assign at a b) = assigned_variable a
  assigned_by (Run at e) = []
  assigned_by (Print at e) = []
  assigned_by (Throw at e) = []
  assigned_by (If at c a b) = assigned_in a ++ assigned_in b
  assigned_by (While at c a) = assigned_in a
  assigned_by (For at name e a) = assigned_in a
  assigned_by (Try at a name b) = assigned_in a ++ assigned_in b
  assigned_by (Batch at interface root a) = assigned_in a

  pub assigned_in : Stmts → List (List ℕ)
  assigned_in NoStmts = []
  assigned_in (MoreStmts s ss) = assigned_by s ++ assigned_in ss

-- a constant variable or list that is assigned in the batch is none
abbrev pub role_with : List (List ℕ) → List ℕ → Role → Role
role_with assigned name role = cond ((is_constant_role role || is_list_role role) && not (is_new name assigned)) Role.Plain role

abbrev pub variable_with : List (List ℕ) → Variable → Variable
variable_with assigned v = record { name = v.name; role = role_with assigned v.name v.role; node = v.node }

-- the scope of a batch in which these variables are assigned
abbrev pub scope_with : List (List ℕ) → Scope → Scope
scope_with assigned scope = map (variable_with assigned) scope

-- the scope in which a batch begins: that in which it stands, and its root
abbrev pub opened : Scope → ℕ → List ℕ → Stmts → Scope
opened outer at root block = scope_with (assigned_in block) (with_variable outer root Role.Root at)
