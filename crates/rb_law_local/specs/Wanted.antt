-- What is so of the expressions that a client takes from the script.
use Rattle.std.specs.Prelude.{◌≡◌, ℕ, List, [], ◌∷◌, true, Ok}
use Rattle.rb_trees.specs.mirror.Code.{Expr}
use Rattle.rb_trees.specs.mirror.Declarations.{Program}
use Rattle.rb_trees.specs.mirror.Services.{Service}
use Rattle.rb_meaning_types.specs.Kinds.{Kind, is_primitive}
use Rattle.rb_meaning_types.specs.Declared.{Context}
use Rattle.rb_meaning_types.specs.Scopes.{Scope}
use Rattle.rb_meaning_types.specs.Expressions.{type_of}
use Rattle.rb_meaning_code.specs.State.{Names}
use Rattle.rb_meaning_code.specs.ScriptRun as scripts
use Rattle.rb_meaning_code.specs.ScriptRun.{Ground, Vars}
use Rattle.rb_meaning.specs.State.{Outside}
use Rattle.rb_meaning.specs.RemotePart as part
use Rattle.rb_meaning_split.specs.Refs.{Refs, sexpr}

module _ (p : Program) (service : Service) (g : Ground) (refs : Refs) (vars : Vars) (Holds : Outside → Type 0) (x : Context) (ws : Scope) where
  -- The script gives the value that the expression has among these names, and it is primitive.
  pub record Wanted (ns : Names) (e : Expr) : Type 0 where
    pub reads : (at : ℕ) (s : Outside) → Holds s → scripts.value_of g at vars (sexpr p refs e) s.server ≡ part.value_of p service e ns s.server
    pub primitive : (k : Kind) → type_of x ws e ≡ Ok k → is_primitive k ≡ true

  abbrev pub AllWanted : Names → List Expr → Type 0
  AllWanted ns [] = Unit {0}
  AllWanted ns (e ∷ es) = Wanted ns e × AllWanted ns es
