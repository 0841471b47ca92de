-- The verdict on a part of a script: what refuses it first, by the numbers of the steps that were read and of the variables
-- that are bound.
use Rattle.std.specs.Prelude.{ℕ, List, Result}
use Rattle.rb_trees.specs.declared.scripts.SExpr as expr
use Rattle.rb_trees.specs.declared.scripts.Step as step
use Rattle.rb_trees.specs.declared.scripts.Script as script
use Rattle.rb_trees.specs.declared.validity.ScriptRefusal.{ScriptRefusal}
use Rattle.rb_trees.specs.mirror.Scripts.{mirror_sexpr, mirror_sexprs, mirror_step, mirror_steps, mirror_script}
use Rattle.rb_trees.specs.Validity.{first, inputs_of, input_refusals, list_refusals, expr_refusals, exprs_refusals, whole_refusals, step_refusals, steps_refusals}

abbrev pub Verdict : Type 0
Verdict = Result (Unit {0}) ScriptRefusal

-- an input that an expression of a step has
abbrev pub input_verdict : script.Script → (step number : ℕ) → Verdict
input_verdict s step number = first (input_refusals (inputs_of (mirror_script s)) step number)

-- the input that an Over goes through
abbrev pub list_verdict : script.Script → (step number : ℕ) → Verdict
list_verdict s step number = first (list_refusals (inputs_of (mirror_script s)) step number)

abbrev pub expr_verdict : script.Script → (bound : List ℕ) → (step depth : ℕ) → expr.SExpr → Verdict
expr_verdict s bound step depth e = first (expr_refusals (inputs_of (mirror_script s)) bound step depth (mirror_sexpr e))

abbrev pub exprs_verdict : script.Script → (bound : List ℕ) → (step depth : ℕ) → List expr.SExpr → Verdict
exprs_verdict s bound step depth es = first (exprs_refusals (inputs_of (mirror_script s)) bound step depth (mirror_sexprs es))

-- an expression that stands in a step
abbrev pub whole_verdict : script.Script → (bound : List ℕ) → (step : ℕ) → expr.SExpr → Verdict
whole_verdict s bound step e = first (whole_refusals (inputs_of (mirror_script s)) bound step (mirror_sexpr e))

abbrev pub step_verdict : script.Script → (depth : ℕ) → (seen bound : List ℕ) → step.Step → Verdict
step_verdict s depth seen bound x = first (step_refusals (inputs_of (mirror_script s)) depth seen bound (mirror_step x))

abbrev pub steps_verdict : script.Script → (depth : ℕ) → (seen bound : List ℕ) → List step.Step → Verdict
steps_verdict s depth seen bound xs = first (steps_refusals (inputs_of (mirror_script s)) depth seen bound (mirror_steps xs))
