-- The steps of a batch's script. The steps of a statement stand before those of what follows it.
use Rattle.std.specs.Prelude.{ℕ, suc, List, [], ◌∷◌, Bool, ◌&&◌}
use Rattle.rb_trees.specs.mirror.Code.{Expr, expr_at, Stmt, Stmts, Val, Run, If, For, NoStmts, MoreStmts}
use Rattle.rb_trees.specs.mirror.Declarations.{Program}
use Rattle.rb_trees.specs.mirror.Scripts as script
use Rattle.rb_trees.specs.mirror.Scripts.{Step, Steps, NoSteps, MoreSteps}
use Rattle.rb_meaning_flow.specs.declared.forms.PlacedForm.{PlacedForm}
use Rattle.rb_meaning_flow.specs.declared.scopes.Role.{Role}
use Rattle.rb_meaning_flow.specs.Facts.{facts_of}
use Rattle.rb_meaning_flow.specs.Scopes.{Scope, with_variable}
use Rattle.rb_meaning_flow.specs.Portable.{holds_call}
use Rattle.rb_meaning_flow.specs.Forms.{placed_form}
use Rattle.rb_meaning_flow.specs.Sites.{scope_after}
use Rattle.rb_meaning.specs.RemoteExprs.{remote_of}
use Rattle.rb_meaning_split.specs.Refs.{Refs, with_var, list_number, sexpr}
use Rattle.rb_meaning_split.specs.Numbers.{step_after, steps_after, var_after, vars_after}

module _ (p : Program) where
  -- the portable variables after a statement, by its form, where m is the number of the script's next variable
  abbrev pub refs_after_as : PlacedForm → Refs → ℕ → Stmt → Refs
  refs_after_as PlacedForm.CarriedVal refs m (Val at name e) = with_var refs name m
  refs_after_as form refs m stmt = refs

  abbrev pub refs_after : Refs → ℕ → Scope → Stmt → Refs
  refs_after refs m scope stmt = refs_after_as (placed_form (facts_of p) scope stmt) refs m stmt

  -- whether a carried val is kept: it holds a call, and its value is primitive
  abbrev pub keeps_val : Expr → Bool
  keeps_val e = holds_call (facts_of p) e && (facts_of p).primitive (expr_at e)

  -- a step for each of these expressions, numbered from n on, that keeps its value
  abbrev pub keeps : Refs → ℕ → List Expr → Steps → Steps
  keeps refs n [] rest = rest
  keeps refs n (e ∷ es) rest = MoreSteps (script.Keep n (expr_at e) (sexpr p refs e)) (keeps refs (suc n) es rest)

  abbrev mutual
    -- The steps of a statement at a script place, by its form: a carried val is a Let, a call alone is a Do, a carried `if` is
    -- an If, a loop over rows is an Each, which keeps primitive rows, and a carried loop is an Over. Of every other statement the
    -- remote expressions are kept, in order of evaluation.
    pub steps_as : PlacedForm → Refs → Scope → (n m : ℕ) → Stmt → Steps → Steps
    steps_as PlacedForm.CarriedVal refs scope n m (Val at name e) rest = MoreSteps (script.Let n at m (keeps_val e) (sexpr p refs e)) rest
    steps_as PlacedForm.CallAlone refs scope n m (Run at e) rest = MoreSteps (script.Do n at (sexpr p refs e)) rest
    steps_as PlacedForm.CarriedIf refs scope n m (If at c a b) rest =
        MoreSteps (script.If n at (sexpr p refs c) (block_steps refs scope (suc n) m a)
        (block_steps refs scope (steps_after (facts_of p) scope a (suc n)) (vars_after (facts_of p) scope a m) b)) rest
    steps_as PlacedForm.RowsLoop refs scope n m (For at name e a) rest =
        MoreSteps (script.Each n at m ((facts_of p).items (expr_at e)) (sexpr p refs e)
        (block_steps (with_var refs name m) (with_variable scope name Role.Row at) (suc n) (suc m) a)) rest
    steps_as PlacedForm.CarriedLoop refs scope n m (For at name e a) rest =
        MoreSteps (script.Over n at m (list_number refs e)
        (block_steps (with_var refs name m) (with_variable scope name Role.Row at) (suc n) (suc m) a)) rest
    steps_as form refs scope n m stmt rest = keeps refs n (remote_of (facts_of p) scope stmt) rest

    -- the steps of a block, whose first step has the number n, and whose first variable the number m
    pub block_steps : Refs → Scope → (n m : ℕ) → Stmts → Steps
    block_steps refs scope n m NoStmts = NoSteps
    block_steps refs scope n m (MoreStmts s ss) = steps_as (placed_form (facts_of p) scope s) refs scope n m s
        (block_steps (refs_after refs m scope s) (scope_after (facts_of p) [] scope s) (step_after (facts_of p) scope s n) (var_after (facts_of p) scope s m) ss)

  -- the steps of a statement at a script place
  abbrev pub steps : Refs → Scope → (n m : ℕ) → Stmt → Steps → Steps
  steps refs scope n m stmt rest = steps_as (placed_form (facts_of p) scope stmt) refs scope n m stmt rest
