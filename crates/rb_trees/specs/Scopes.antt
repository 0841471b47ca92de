-- What the validity check knows of what stands around a step.
use Rattle.std.specs.Prelude.{ℕ, List, [], ◌∷◌, ◌++◌, Result}
use Rattle.rb_trees.specs.declared.scripts.SExpr as expr
use Rattle.rb_trees.specs.declared.scripts.Step as step
use Rattle.rb_trees.specs.declared.scripts.Script as script
use Rattle.rb_trees.specs.declared.validity.ScriptRefusal.{ScriptRefusal}
use Rattle.rb_trees.specs.declared.validity.Around.{Around}
use Rattle.rb_trees.specs.declared.validity.Around.TheOpen.{Around-F}
use Rattle.rb_trees.specs.declared.validity.Around.TheFolds.{fold-Around}
use Rattle.rb_trees.specs.mirror.Scripts.{mirror_sexpr, mirror_sexprs, mirror_step, mirror_steps, mirror_script}
use Rattle.rb_trees.specs.Validity.{first, inputs_of, expr_refusals, exprs_refusals, whole_refusals, step_refusals, steps_refusals, steps_numbers, steps_lets}

abbrev pub seen_step : Around-F (List ℕ) → List ℕ
seen_step Around-F.Root = []
seen_step (Around-F.Row var outer) = outer.now
seen_step (Around-F.Step id outer) = outer.now ++ id ∷ []
seen_step (Around-F.Block steps outer) = outer.now ++ steps_numbers (mirror_steps steps.now)
seen_step (Around-F.Closed steps outer) = outer.now ++ steps_numbers (mirror_steps steps.now)

-- the numbers of the steps that were read
abbrev pub seen : Around → List ℕ
seen = fold-Around (List ℕ) seen_step

abbrev pub bound_step : Around-F (List ℕ) → List ℕ
bound_step Around-F.Root = []
bound_step (Around-F.Row var outer) = outer.now ++ var ∷ []
bound_step (Around-F.Step id outer) = outer.now
bound_step (Around-F.Block steps outer) = outer.now ++ steps_lets (mirror_steps steps.now)
bound_step (Around-F.Closed steps outer) = outer.now

-- the variables that are bound
abbrev pub bound : Around → List ℕ
bound = fold-Around (List ℕ) bound_step

-- ---- the verdict on a part of a script: what refuses it first, with what stands around it

abbrev pub expr_verdict : script.Script → Around → (step depth : ℕ) → expr.SExpr → Result (Unit {0}) ScriptRefusal
expr_verdict s scope step depth e = first (expr_refusals (inputs_of (mirror_script s)) (bound scope) step depth (mirror_sexpr e))

abbrev pub exprs_verdict : script.Script → Around → (step depth : ℕ) → List expr.SExpr → Result (Unit {0}) ScriptRefusal
exprs_verdict s scope step depth es = first (exprs_refusals (inputs_of (mirror_script s)) (bound scope) step depth (mirror_sexprs es))

-- an expression that stands in a step
abbrev pub whole_verdict : script.Script → Around → (step : ℕ) → expr.SExpr → Result (Unit {0}) ScriptRefusal
whole_verdict s scope step e = first (whole_refusals (inputs_of (mirror_script s)) (bound scope) step (mirror_sexpr e))

abbrev pub step_verdict : script.Script → Around → (depth : ℕ) → step.Step → Result (Unit {0}) ScriptRefusal
step_verdict s scope depth x = first (step_refusals (inputs_of (mirror_script s)) depth (seen scope) (bound scope) (mirror_step x))

abbrev pub steps_verdict : script.Script → Around → (depth : ℕ) → List step.Step → Result (Unit {0}) ScriptRefusal
steps_verdict s scope depth xs = first (steps_refusals (inputs_of (mirror_script s)) depth (seen scope) (bound scope) (mirror_steps xs))
