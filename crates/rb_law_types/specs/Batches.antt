-- The batches of code.
use Rattle.std.specs.Prelude.{◌≡◌, List, [], ◌∷◌, ◌++◌, ℕ, true, false}
use Rattle.std.specs.List.{Contains}
use Rattle.rb_trees.specs.mirror.Code.{Stmt, Stmts, Val, Var, Assign, Run, Print, Throw, If, While, For, Try, Batch, NoStmts, MoreStmts}
use Rattle.rb_trees.specs.mirror.Declarations.{Method}
use Rattle.rb_meaning_types.specs.Declared.{Declarations, Context, method_context}
use Rattle.rb_meaning_types.specs.Scopes.{Scope, parameters}
use Rattle.rb_meaning_types.specs.Statements.{placed, loop_scope, catch_scope, check_stmt}
use Rattle.rb_meaning_types.specs.Notes.{scope_or}
use Rattle.rb_trees.specs.Outcome.{◌>>=◌}
use Rattle.rb_law_types.specs.Asked.{Site}
use Rattle.rb_law_types.specs.Admitted.{HasMethod}

-- the batches of a statement, each in the scope in which it is typed; those within a batch are left out
abbrev mutual
  pub sites : Context → Scope → Stmt → List Site
  sites x scope (Val at name e) = []
  sites x scope (Var at name e) = []
  sites x scope (Assign at a b) = []
  sites x scope (Run at e) = []
  sites x scope (Print at e) = []
  sites x scope (Throw at e) = []
  sites x scope (If at c a b) = sites_in x scope a ++ sites_in x scope b
  sites x scope (While at c a) = sites_in x scope a
  sites x scope (For at name e a) = sites_in x (scope_or scope (placed x scope e >>= λ p. loop_scope scope at name p)) a
  sites x scope (Try at a name b) = sites_in x scope a ++ sites_in x (scope_or scope (catch_scope scope at name)) b
  sites x scope (Batch at interface root a) =
      record { at = at; interface = interface; root = root; block = a; place = record { this = x.this; remote = x.remote; scope = scope } } ∷ []

  pub sites_in : Context → Scope → Stmts → List Site
  sites_in x scope NoStmts = []
  sites_in x scope (MoreStmts s ss) = sites x scope s ++ sites_in x (scope_or scope (check_stmt x scope s)) ss

-- where batches may stand
pub record MayHold (x : Context) : Type 0 where
  pub of_program : x.declared.service ≡ false
  pub remote : x.remote ≡ true

-- batches that are all among others
abbrev pub AreAmong : List Site → List Site → Type 0
AreAmong batches some = (b : Site) → Contains some b → Contains batches b

-- so those of the methods of declarations
abbrev pub MethodsAsk : List Site → Declarations → Type 0
MethodsAsk batches d = (class name : List ℕ) (m : Method) → HasMethod d class name m → MayHold (method_context d class m.remote)
    → AreAmong batches (sites_in (method_context d class m.remote) (parameters m.signature.params) m.body.statements)
