-- A weight of scripts, which falls at each step into them.
use Rattle.std.proofs.Common.{ℕ, zero, suc, ◌+◌, ◌<◌, ◌≤◌, max, arith, List, [], ◌∷◌, length, get_or}
use Rattle.rb_trees.specs.declared.scripts.Operands.{Operands}
use Rattle.rb_trees.specs.declared.scripts.Invocation.{Invocation}
use Rattle.rb_trees.specs.declared.scripts.SExpr as sexpr
use Rattle.rb_trees.specs.declared.scripts.Step as step
use Rattle.rb_trees.specs.mirror.Scripts as script
use Rattle.rb_trees.specs.mirror.Scripts.{SExpr, SExprs, Step, Steps, mirror_sexpr, mirror_sexprs, mirror_step, mirror_steps}

abbrev mutual
  pub expr_weight : SExpr → ℕ
  expr_weight (script.Lit v) = 0
  expr_weight (script.Input n) = 0
  expr_weight (script.Var n) = 0
  expr_weight script.Root = 0
  expr_weight (script.Unary op at a) = 3 + expr_weight a
  expr_weight (script.Binary op at a b) = 4 + max (expr_weight a) (expr_weight b)
  expr_weight (script.Call at kind method target args) = 3 + max (expr_weight target) (exprs_weight args)

  pub exprs_weight : SExprs → ℕ
  exprs_weight script.NoSExprs = 0
  exprs_weight (script.MoreSExprs e es) = max (expr_weight e) (exprs_weight es)

abbrev mutual
  pub step_weight : Step → ℕ
  step_weight (script.Do id at e) = 0
  step_weight (script.Keep id at e) = 0
  step_weight (script.Let id at var keep e) = 0
  step_weight (script.If id at e a b) = 5 + max (steps_weight a) (steps_weight b)
  step_weight (script.Each id at var keep e a) = 8 + steps_weight a
  step_weight (script.Over id at var input a) = 8 + steps_weight a

  pub steps_weight : Steps → ℕ
  steps_weight script.NoSteps = 0
  steps_weight (script.MoreSteps s ss) = max (step_weight s) (steps_weight ss)

-- the same of trees
abbrev pub weight_of : sexpr.SExpr → ℕ
weight_of e = expr_weight (mirror_sexpr e)

abbrev pub weights_of : List sexpr.SExpr → ℕ
weights_of es = exprs_weight (mirror_sexprs es)

abbrev pub operands_of : Operands sexpr.SExpr → ℕ
operands_of operands = max (weight_of operands.left) (weight_of operands.right)

abbrev pub invocation_of : Invocation sexpr.SExpr → ℕ
invocation_of call = max (weight_of call.target) (weights_of call.args)

abbrev pub step_of : step.Step → ℕ
step_of s = step_weight (mirror_step s)

abbrev pub steps_of : List step.Step → ℕ
steps_of ss = steps_weight (mirror_steps ss)

-- each item weighs no more than the list
pub expr_in : (es : List sexpr.SExpr) (i : ℕ) (e : sexpr.SExpr) → i < length es → weight_of (get_or es i e) ≤ weights_of es
expr_in [] i e l = absurd (omega arith)
expr_in (x ∷ es) zero e l = omega arith
expr_in (x ∷ es) (suc i) e l = let h = expr_in es i e (omega arith) in omega arith

pub step_in : (ss : List step.Step) (i : ℕ) (s : step.Step) → i < length ss → step_of (get_or ss i s) ≤ steps_of ss
step_in [] i s l = absurd (omega arith)
step_in (x ∷ ss) zero s l = omega arith
step_in (x ∷ ss) (suc i) s l = let h = step_in ss i s (omega arith) in omega arith
