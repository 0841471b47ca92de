-- Which scripts are valid: all refusals of a script in reading order. `valid` answers the first of them.
use Rattle.std.specs.Prelude.{ℕ, ◌+◌, ◌==◌, Bool, true, false, ◌||◌, not, nat_lt, List, [], ◌∷◌, ◌++◌, Result, Ok, Err}
use Rattle.rb_trees.specs.ScriptLimits.{most_blocks, most_exprs}
use Rattle.rb_trees.specs.declared.validity.ScriptRefusal.{ScriptRefusal}
use Rattle.rb_trees.specs.declared.validity.ScriptRefusal.TheVariants.{UnknownVariable, UnknownInput, StepRepeated, TooDeep, WrongInput}
use Rattle.rb_trees.specs.mirror.Scripts.{SExpr, Lit, Input, Var, Root, Unary, Binary, Call, SExprs, NoSExprs, MoreSExprs, Step, Do, Keep, Let, If, Each, Over, Steps, NoSteps, MoreSteps, Script}

-- whether a number is among others
abbrev pub has : ℕ → List ℕ → Bool
has x [] = false
has x (y ∷ ys) = (x == y) || has x ys

-- this refusal, where the test holds
abbrev pub when : Bool → ScriptRefusal → List ScriptRefusal
when true r = r ∷ []
when false r = []

-- the first of the refusals
abbrev pub first : List ScriptRefusal → Result (Unit {0}) ScriptRefusal
first [] = Ok tt
first (r ∷ rs) = Err r

-- the inputs of a script: how many there are, and the numbers of those that are lists
pub record Inputs : Type 0 where
  pub count : ℕ
  pub lists : List ℕ

-- the inputs that a script has
abbrev pub inputs_of : Script → Inputs
inputs_of s = record { count = s.inputs; lists = s.lists }

-- There are fewer inputs.
abbrev pub unknown_input : Inputs → ℕ → ℕ → List ScriptRefusal
unknown_input inputs step n = when (not (nat_lt n inputs.count)) (UnknownInput step)

-- The input that an expression has is a list.
abbrev pub input_refusals : Inputs → ℕ → ℕ → List ScriptRefusal
input_refusals inputs step n = unknown_input inputs step n ++ when (has n inputs.lists) (WrongInput step)

-- The input that an Over goes through is no list.
abbrev pub list_refusals : Inputs → ℕ → ℕ → List ScriptRefusal
list_refusals inputs step n = unknown_input inputs step n ++ when (not (has n inputs.lists)) (WrongInput step)

-- An expression stands within so many, itself among them; the limit is 256.
abbrev pub nested_exprs : ℕ → ℕ → List ScriptRefusal
nested_exprs step depth = when (nat_lt most_exprs depth) (TooDeep step)

-- The refusals of an expression of a step, under these inputs and variables, from above: how deep it stands, then
-- itself, then its parts from the left.
abbrev mutual
  pub expr_refusals : Inputs → List ℕ → ℕ → ℕ → SExpr → List ScriptRefusal
  expr_refusals inputs bound step depth (Lit v) = nested_exprs step depth
  expr_refusals inputs bound step depth (Input n) = nested_exprs step depth ++ input_refusals inputs step n
  expr_refusals inputs bound step depth (Var n) = nested_exprs step depth ++ when (not (has n bound)) (UnknownVariable step)
  expr_refusals inputs bound step depth Root = nested_exprs step depth
  expr_refusals inputs bound step depth (Unary op at a) = nested_exprs step depth ++ expr_refusals inputs bound step (depth + 1) a
  expr_refusals inputs bound step depth (Binary op at a b) =
      nested_exprs step depth ++ expr_refusals inputs bound step (depth + 1) a ++ expr_refusals inputs bound step (depth + 1) b
  expr_refusals inputs bound step depth (Call at kind method target args) =
      nested_exprs step depth ++ expr_refusals inputs bound step (depth + 1) target ++ exprs_refusals inputs bound step (depth + 1) args

  pub exprs_refusals : Inputs → List ℕ → ℕ → ℕ → SExprs → List ScriptRefusal
  exprs_refusals inputs bound step depth NoSExprs = []
  exprs_refusals inputs bound step depth (MoreSExprs e es) = expr_refusals inputs bound step depth e ++ exprs_refusals inputs bound step depth es

-- the expression that stands in a step
unfoldable pub whole_refusals : Inputs → List ℕ → ℕ → SExpr → List ScriptRefusal
whole_refusals inputs bound step e = expr_refusals inputs bound step 1 e

-- the numbers of a step and of those in its blocks, in reading order
abbrev mutual
  pub step_numbers : Step → List ℕ
  step_numbers (Do id at e) = id ∷ []
  step_numbers (Keep id at e) = id ∷ []
  step_numbers (Let id at var keep e) = id ∷ []
  step_numbers (If id at e a b) = id ∷ steps_numbers a ++ steps_numbers b
  step_numbers (Each id at var keep e a) = id ∷ steps_numbers a
  step_numbers (Over id at var input a) = id ∷ steps_numbers a

  pub steps_numbers : Steps → List ℕ
  steps_numbers NoSteps = []
  steps_numbers (MoreSteps s ss) = step_numbers s ++ steps_numbers ss

-- the variable that a step binds for the later steps of its block
abbrev pub step_lets : Step → List ℕ
step_lets (Let id at var keep e) = var ∷ []
step_lets _ = []

abbrev pub steps_lets : Steps → List ℕ
steps_lets NoSteps = []
steps_lets (MoreSteps s ss) = step_lets s ++ steps_lets ss

-- An earlier step has the number.
abbrev pub repeated : ℕ → List ℕ → List ScriptRefusal
repeated id seen = when (has id seen) (StepRepeated id)

-- The step stands in the so-manieth block, so its own blocks stand one deeper; the limit is 64.
abbrev pub nested_blocks : ℕ → ℕ → List ScriptRefusal
nested_blocks id depth = when (not (nat_lt depth most_blocks)) (TooDeep id)

-- The refusals of a step, behind steps of these numbers and under these variables: its number, how deep its blocks stand,
-- its expression or its list, then its blocks. An Each and an Over bind their variable in their block.
abbrev mutual
  pub step_refusals : Inputs → ℕ → List ℕ → List ℕ → Step → List ScriptRefusal
  step_refusals inputs depth seen bound (Do id at e) = repeated id seen ++ whole_refusals inputs bound id e
  step_refusals inputs depth seen bound (Keep id at e) = repeated id seen ++ whole_refusals inputs bound id e
  step_refusals inputs depth seen bound (Let id at var keep e) = repeated id seen ++ whole_refusals inputs bound id e
  step_refusals inputs depth seen bound (If id at e a b) =
      repeated id seen ++ nested_blocks id depth ++ whole_refusals inputs bound id e
      ++ steps_refusals inputs (depth + 1) (seen ++ id ∷ []) bound a
      ++ steps_refusals inputs (depth + 1) (seen ++ id ∷ steps_numbers a) bound b
  step_refusals inputs depth seen bound (Each id at var keep e a) =
      repeated id seen ++ nested_blocks id depth ++ whole_refusals inputs bound id e
      ++ steps_refusals inputs (depth + 1) (seen ++ id ∷ []) (bound ++ var ∷ []) a
  step_refusals inputs depth seen bound (Over id at var input a) =
      repeated id seen ++ nested_blocks id depth ++ list_refusals inputs id input
      ++ steps_refusals inputs (depth + 1) (seen ++ id ∷ []) (bound ++ var ∷ []) a

  -- A Let binds its variable for the later steps of its block.
  pub steps_refusals : Inputs → ℕ → List ℕ → List ℕ → Steps → List ScriptRefusal
  steps_refusals inputs depth seen bound NoSteps = []
  steps_refusals inputs depth seen bound (MoreSteps s ss) =
      step_refusals inputs depth seen bound s ++ steps_refusals inputs depth (seen ++ step_numbers s) (bound ++ step_lets s) ss

-- what `valid` answers
abbrev pub verdict : Script → Result (Unit {0}) ScriptRefusal
verdict s = first (steps_refusals (inputs_of s) 1 [] [] s.body)
