-- How the steps and the parts of a block are written, statement after statement.
use Rattle.std.specs.Prelude.{ℕ, suc, List, [], ◌∷◌}
use Rattle.rb_trees.specs.mirror.Code.{Expr, expr_at, Stmt, Stmts, NoStmts, MoreStmts}
use Rattle.rb_trees.specs.mirror.Declarations.{Program}
use Rattle.rb_trees.specs.mirror.Scripts as script
use Rattle.rb_trees.specs.mirror.Scripts.{Step, Steps, NoSteps, MoreSteps, mirror_steps}
use Rattle.rb_trees.specs.mirror.Remainders as remainder
use Rattle.rb_trees.specs.mirror.Remainders.{Part, Parts, NoParts, MoreParts, mirror_parts}
use Rattle.rb_meaning_flow.specs.declared.forms.PlacedForm.{PlacedForm}
use Rattle.rb_meaning_flow.specs.declared.scopes.Role.{Role}
use Rattle.rb_meaning_flow.specs.Facts.{facts_of}
use Rattle.rb_meaning_flow.specs.Forms.{placed_form}
use Rattle.rb_meaning_flow.specs.Scopes.{Scope, with_variable}
use Rattle.rb_meaning_flow.specs.Sites.{scope_after}
use Rattle.rb_meaning.specs.RemoteExprs.{remote_of}
use Rattle.rb_meaning_split.specs.Refs.{Refs, list_number, sexpr, with_var}
use Rattle.rb_meaning_split.specs.Numbers.{step_after_as, var_after_as}
use Rattle.rb_meaning_split.specs.Steps.{keeps_val, refs_after, steps_as}
use Rattle.rb_meaning_split.specs.Parts.{carried, over, part_as, plain, row_kind}
use Rattle.rb_split.specs.declared.drafts.Draft.{Draft}

-- some steps, and then others
abbrev pub joined : Steps → Steps → Steps
joined NoSteps more = more
joined (MoreSteps s ss) more = MoreSteps s (joined ss more)

abbrev pub joined_parts : Parts → Parts → Parts
joined_parts NoParts more = more
joined_parts (MoreParts q qs) more = MoreParts q (joined_parts qs more)

-- what a draft holds: the steps and the parts so far, and the numbers of the next step and variable
pub record Drafted : Type 0 where
  pub steps : Steps
  pub parts : Parts
  pub step : ℕ
  pub var : ℕ

abbrev pub drafted : Draft → Drafted
drafted d = record { steps = mirror_steps d.steps; parts = mirror_parts d.parts; step = d.step; var = d.var }

-- an empty block, whose first step and variable have these numbers
abbrev pub fresh : ℕ → ℕ → Drafted
fresh n m = record { steps = NoSteps; parts = NoParts; step = n; var = m }

-- one more step, and the part beside it
abbrev pub with_step : Drafted → Step → Part → ℕ → ℕ → Drafted
with_step d s q n m = record { steps = joined d.steps (MoreSteps s NoSteps); parts = joined_parts d.parts (MoreParts q NoParts); step = n; var = m }

-- one more step alone
abbrev pub with_kept : Drafted → Step → ℕ → ℕ → Drafted
with_kept d s n m = record { steps = joined d.steps (MoreSteps s NoSteps); parts = d.parts; step = n; var = m }

-- one more part alone
abbrev pub with_part : Drafted → Part → Drafted
with_part d q = record { steps = d.steps; parts = joined_parts d.parts (MoreParts q NoParts); step = d.step; var = d.var }

module _ (p : Program) where
  -- one more step that keeps the value of an expression, and one for each of some
  abbrev pub one_kept : Refs → Drafted → Expr → Drafted
  one_kept refs d e = with_kept d (script.Keep d.step (expr_at e) (sexpr p refs e)) (suc d.step) d.var

  abbrev pub all_kept : Refs → Drafted → List Expr → Drafted
  all_kept refs d [] = d
  all_kept refs d (e ∷ es) = all_kept refs (one_kept refs d e) es

  -- a statement that is left to the client, without its remote expressions
  abbrev pub plain_drafted : Refs → Scope → Drafted → Stmt → Drafted
  plain_drafted refs scope d s = with_part (all_kept refs d (remote_of (facts_of p) scope s)) (plain p scope d.step s)

  -- a carried val
  abbrev pub let_of : Refs → (n m : ℕ) → ℕ → Expr → Step
  let_of refs n m at e = script.Let n at m (keeps_val p e) (sexpr p refs e)

  abbrev pub carried_drafted : Refs → Drafted → ℕ → List ℕ → Expr → Drafted
  carried_drafted refs d at name e = with_step d (let_of refs d.step d.var at e) (carried p d.step at name e) (suc d.step) (suc d.var)

  -- a remote expression alone
  abbrev pub do_of : Refs → ℕ → ℕ → Expr → Step
  do_of refs n at e = script.Do n at (sexpr p refs e)

  abbrev pub do_drafted : Refs → Drafted → ℕ → Expr → Drafted
  do_drafted refs d at e = with_step d (do_of refs d.step at e) (remainder.Pass d.step) (suc d.step) d.var

  -- a statement at a script place, by its form
  abbrev pub stmt_drafted_as : PlacedForm → Refs → Scope → Drafted → Stmt → Drafted
  stmt_drafted_as form refs scope d s = record {
    steps = joined d.steps (steps_as p form refs scope d.step d.var s NoSteps);
    parts = joined_parts d.parts (MoreParts (part_as p form refs scope d.step d.var s) NoParts);
    step = step_after_as (facts_of p) form scope s d.step;
    var = var_after_as (facts_of p) form scope s d.var;
  }

  abbrev pub stmt_drafted : Refs → Scope → Drafted → Stmt → Drafted
  stmt_drafted refs scope d s = stmt_drafted_as (placed_form (facts_of p) scope s) refs scope d s

  -- the statements of a block
  abbrev pub block_drafted : Refs → Scope → Drafted → Stmts → Drafted
  block_drafted refs scope d NoStmts = d
  block_drafted refs scope d (MoreStmts s ss) =
      block_drafted (refs_after p refs d.var scope s) (scope_after (facts_of p) [] scope s) (stmt_drafted refs scope d s) ss

  -- an `if` whose blocks were drafted
  abbrev pub if_of : Refs → ℕ → ℕ → Expr → Steps → Steps → Step
  if_of refs n at c a b = script.If n at (sexpr p refs c) a b

  abbrev pub closed_branch : Refs → Drafted → ℕ → Expr → Drafted → Drafted → Drafted
  closed_branch refs d at c one two =
      with_step d (if_of refs d.step at c one.steps two.steps) (remainder.Branch d.step one.parts two.parts) two.step two.var

  -- a loop over rows whose block was drafted
  abbrev pub each_of : Refs → (n m : ℕ) → ℕ → Expr → Steps → Step
  each_of refs n m at e a = script.Each n at m ((facts_of p).items (expr_at e)) (sexpr p refs e) a

  abbrev pub closed_turns : Refs → Drafted → ℕ → List ℕ → Expr → Drafted → Drafted
  closed_turns refs d at name e body =
      with_step d (each_of refs d.step d.var at e body.steps)
      (remainder.Turns d.step name (row_kind p e) body.parts) body.step body.var

  -- a carried loop whose block was drafted
  abbrev pub over_of : Refs → (n m : ℕ) → ℕ → Expr → Steps → Step
  over_of refs n m at e a = script.Over n at m (list_number refs e) a

  abbrev pub closed_over : Refs → Drafted → ℕ → List ℕ → Expr → Drafted → Drafted
  closed_over refs d at name e body =
      with_step d (over_of refs d.step d.var at e body.steps) (over p refs d.step at name e body.parts) body.step body.var

  -- the block of a carried `if`'s first branch, and of its second one
  abbrev pub first_drafted : Refs → Scope → Drafted → Stmts → Drafted
  first_drafted refs scope d a = block_drafted refs scope (fresh (suc d.step) d.var) a

  abbrev pub second_drafted : Refs → Scope → Drafted → Stmts → Drafted
  second_drafted refs scope one b = block_drafted refs scope (fresh one.step one.var) b

  abbrev pub branch_drafted : Refs → Scope → Drafted → ℕ → Expr → Stmts → Stmts → Drafted
  branch_drafted refs scope d at c a b =
      closed_branch refs d at c (first_drafted refs scope d a) (second_drafted refs scope (first_drafted refs scope d a) b)

  -- the block of a loop, whose variable is the next one
  abbrev pub turn_drafted : Refs → Scope → Drafted → ℕ → List ℕ → Stmts → Drafted
  turn_drafted refs scope d at name a =
      block_drafted (with_var refs name d.var) (with_variable scope name Role.Row at) (fresh (suc d.step) (suc d.var)) a
