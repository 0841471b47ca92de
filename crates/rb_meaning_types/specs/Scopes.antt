-- The variables that are in scope: the names of a scope stand in order of binding, new ones at the end.
use Rattle.std.specs.Prelude.{ℕ, List, [], ◌∷◌, ◌++◌, map, Bool, true, Option}
use Rattle.std.specs.Option.{is_none}
use Rattle.rb_trees.specs.mirror.Declarations.{Param}
use Rattle.rb_meaning_types.specs.Kinds.{Kind, kind_of}
use Rattle.rb_meaning_types.specs.Names.{first_named}

-- a variable: its name, its type, and whether it can't be assigned
pub record Variable : Type 0 where
  pub name : List ℕ
  pub kind : Kind
  pub fixed : Bool

abbrev pub Scope : Type 0
Scope = List Variable

abbrev pub variable_named : Scope → List ℕ → Option Variable
variable_named scope name = first_named (λ v. v.name) scope name

-- whether no variable of the name is in scope
abbrev pub is_free : Scope → List ℕ → Bool
is_free scope name = is_none (variable_named scope name)

-- the scope with one more variable
abbrev pub with_variable : Scope → List ℕ → Kind → Bool → Scope
with_variable scope name kind fixed = scope ++ record { name = name; kind = kind; fixed = fixed } ∷ []

-- a parameter as a variable: it can't be assigned
abbrev pub parameter : Param → Variable
parameter p = record { name = p.name; kind = kind_of p.kind; fixed = true }

-- the scope in which a method's body begins
abbrev pub parameters : List Param → Scope
parameters params = map parameter params
