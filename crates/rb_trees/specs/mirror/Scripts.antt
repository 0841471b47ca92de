-- The mirror of scripts. A step has its number and its position first.
use Rattle.std.specs.Prelude.{ℕ, List, [], ◌∷◌, Bool}
use Rattle.rb_trees.specs.declared.values.Value.{Value}
use Rattle.rb_trees.specs.declared.code.UnOp.{UnOp}
use Rattle.rb_trees.specs.declared.code.BinOp.{BinOp}
use Rattle.rb_trees.specs.declared.scripts.SExpr as expr
use Rattle.rb_trees.specs.declared.scripts.SExpr.TheOpen.{SExpr-F}
use Rattle.rb_trees.specs.declared.scripts.SExpr.TheFolds.{fold-SExpr}
use Rattle.rb_trees.specs.declared.scripts.Step as step
use Rattle.rb_trees.specs.declared.scripts.StepForm as form
use Rattle.rb_trees.specs.declared.scripts.StepForm.TheOpen.{Step-F, StepForm-F}
use Rattle.rb_trees.specs.declared.scripts.StepForm.TheFolds.{fold-Step, fold-StepForm}
use Rattle.rb_trees.specs.declared.scripts.Script as script

mutual
  pub data SExpr : Type 0 where
    Lit : (value : Value) → SExpr
    Input : (number : ℕ) → SExpr
    Var : (number : ℕ) → SExpr
    Root : SExpr
    Unary : (op : UnOp) (at : ℕ) (operand : SExpr) → SExpr
    Binary : (op : BinOp) (at : ℕ) (left right : SExpr) → SExpr
    Call : (at kind : ℕ) (method : List ℕ) (target : SExpr) (args : SExprs) → SExpr

  pub data SExprs : Type 0 where
    NoSExprs : SExprs
    MoreSExprs : (first : SExpr) (rest : SExprs) → SExprs

mutual
  pub data Step : Type 0 where
    Do : (id at : ℕ) (expr : SExpr) → Step
    Keep : (id at : ℕ) (expr : SExpr) → Step
    Let : (id at var : ℕ) (keep : Bool) (value : SExpr) → Step
    If : (id at : ℕ) (condition : SExpr) (then_block else_block : Steps) → Step
    Each : (id at var : ℕ) (keep : Bool) (rows : SExpr) (block : Steps) → Step
    Over : (id at var input : ℕ) (block : Steps) → Step

  pub data Steps : Type 0 where
    NoSteps : Steps
    MoreSteps : (first : Step) (rest : Steps) → Steps

pub record Script : Type 0 where
  pub inputs : ℕ
  pub lists : List ℕ
  pub body : Steps

abbrev pub sexprs_from : List SExpr → SExprs
sexprs_from [] = NoSExprs
sexprs_from (e ∷ es) = MoreSExprs e (sexprs_from es)

abbrev pub sexpr_step : SExpr-F SExpr → SExpr
sexpr_step (SExpr-F.Lit value) = Lit value
sexpr_step (SExpr-F.Input number) = Input number
sexpr_step (SExpr-F.Var number) = Var number
sexpr_step SExpr-F.Root = Root
sexpr_step (SExpr-F.Unary op at a) = Unary op at a
sexpr_step (SExpr-F.Binary op at operands) = Binary op at operands.left operands.right
sexpr_step (SExpr-F.Call kind at call) = Call at kind call.method call.target (sexprs_from call.args)

-- an expression of a script in the mirror
unfoldable pub mirror_sexpr : expr.SExpr → SExpr
mirror_sexpr e = fold-SExpr SExpr sexpr_step e

abbrev pub mirror_sexprs : List expr.SExpr → SExprs
mirror_sexprs [] = NoSExprs
mirror_sexprs (e ∷ es) = MoreSExprs (mirror_sexpr e) (mirror_sexprs es)

abbrev pub steps_from : List Step → Steps
steps_from [] = NoSteps
steps_from (s ∷ ss) = MoreSteps s (steps_from ss)

abbrev pub step_form_step : StepForm-F (ℕ → ℕ → Step) Step → ℕ → ℕ → Step
step_form_step (StepForm-F.Do e) id at = Do id at (mirror_sexpr e)
step_form_step (StepForm-F.Keep e) id at = Keep id at (mirror_sexpr e)
step_form_step (StepForm-F.Let var keep e) id at = Let id at var keep (mirror_sexpr e)
step_form_step (StepForm-F.If e a b) id at = If id at (mirror_sexpr e) (steps_from a) (steps_from b)
step_form_step (StepForm-F.Each var keep e a) id at = Each id at var keep (mirror_sexpr e) (steps_from a)
step_form_step (StepForm-F.Over var input a) id at = Over id at var input (steps_from a)

abbrev pub step_step : Step-F (ℕ → ℕ → Step) Step → Step
step_step s = s.form s.id s.at

-- a step in the mirror
unfoldable pub mirror_step : step.Step → Step
mirror_step s = fold-Step (ℕ → ℕ → Step) Step step_form_step step_step s

-- the step of this form, with its number and position
unfoldable pub mirror_step_form : form.StepForm → ℕ → ℕ → Step
mirror_step_form f id at = fold-StepForm (ℕ → ℕ → Step) Step step_form_step step_step f id at

abbrev pub mirror_steps : List step.Step → Steps
mirror_steps [] = NoSteps
mirror_steps (s ∷ ss) = MoreSteps (mirror_step s) (mirror_steps ss)

-- a script in the mirror
abbrev pub mirror_script : script.Script → Script
mirror_script s = record { inputs = s.inputs; lists = s.lists; body = mirror_steps s.body }
