-- Portable expressions as expressions of a script.
use Rattle.std.specs.Prelude.{ℕ, List, [], ◌∷◌, ◌++◌, Option, Some, None}
use Rattle.rb_trees.specs.Named.{lookup}
use Rattle.rb_trees.specs.mirror.Code.{Expr, Exprs, Lit, Name, Unary, Binary, Call, NoExprs, MoreExprs}
use Rattle.rb_trees.specs.mirror.Declarations.{Program}
use Rattle.rb_trees.specs.mirror.Scripts as script
use Rattle.rb_trees.specs.mirror.Scripts.{SExpr, SExprs}
use Rattle.rb_meaning_types.specs.CallKinds.{call_kind}

-- what a script calls a portable variable: the root, an input or a variable of its own
pub data Ref : Type 0 where
  Root : Ref
  Input : (number : ℕ) → Ref
  Var : (number : ℕ) → Ref

-- the portable variables, each with what the script calls it, in order of binding
abbrev pub Refs : Type 0
Refs = List (List ℕ × Ref)

-- with one variable of the script more, at the end
abbrev pub with_var : Refs → List ℕ → ℕ → Refs
with_var refs name number = refs ++ (name, Var number) ∷ []

-- A portable variable in a script. Each one has a name there; other variables stand in no script.
abbrev pub ref_expr : Option Ref → SExpr
ref_expr (Some Root) = script.Root
ref_expr (Some (Input number)) = script.Input number
ref_expr (Some (Var number)) = script.Var number
ref_expr None = script.Root

-- the number of an input
abbrev pub input_number : Option Ref → ℕ
input_number (Some (Input number)) = number
input_number _ = 0

-- the number of the input that a list is, by its name
abbrev pub list_number : Refs → Expr → ℕ
list_number refs (Name at name) = input_number (lookup refs name)
list_number refs _ = 0

module _ (p : Program) where
  abbrev mutual
    -- A portable expression in the script: names go by what the script calls them, calls have their kinds, and operators
    -- and calls keep their positions. No other form is portable.
    pub sexpr : Refs → Expr → SExpr
    sexpr refs (Lit at value) = script.Lit value
    sexpr refs (Name at name) = ref_expr (lookup refs name)
    sexpr refs (Unary at op a) = script.Unary op at (sexpr refs a)
    sexpr refs (Binary at op a b) = script.Binary op at (sexpr refs a) (sexpr refs b)
    sexpr refs (Call at a method args) = script.Call at (call_kind p at) method (sexpr refs a) (sexprs refs args)
    sexpr refs _ = script.Root

    pub sexprs : Refs → Exprs → SExprs
    sexprs refs NoExprs = script.NoSExprs
    sexprs refs (MoreExprs e es) = script.MoreSExprs (sexpr refs e) (sexprs refs es)
