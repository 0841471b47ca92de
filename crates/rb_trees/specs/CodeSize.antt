-- How many bytes the code of a script has on the wire.
use Rattle.std.specs.Prelude.{ℕ, ◌+◌, ◌-◌, ◌^◌, min, length}
use Rattle.rb_trees.specs.declared.values.Value.{Value, out-Value}
use Rattle.rb_trees.specs.declared.values.Value.TheOpen.{Value-F}
use Rattle.rb_trees.specs.mirror.Scripts.{SExpr, Lit, Input, Var, Root, Unary, Binary, Call, SExprs, NoSExprs, MoreSExprs, Step, Do, Keep, Let, If, Each, Over, Steps, NoSteps, MoreSteps, Script}

-- Numbers have four bytes, an Int has eight, a text four and its own.
abbrev pub value_form_size : Value-F Value → ℕ
value_form_size (Value-F.Int z) = 9
value_form_size (Value-F.Bool b) = 2
value_form_size (Value-F.Text bytes) = 5 + length bytes
value_form_size _ = 0

abbrev pub value_size : Value → ℕ
value_size v = value_form_size (out-Value v)

abbrev mutual
  pub expr_size : SExpr → ℕ
  expr_size (Lit v) = 1 + value_size v
  expr_size (Input n) = 2
  expr_size (Var n) = 5
  expr_size Root = 1
  expr_size (Unary op at a) = 6 + expr_size a
  expr_size (Binary op at a b) = 6 + expr_size a + expr_size b
  expr_size (Call at kind method target args) = 14 + length method + expr_size target + exprs_size args

  pub exprs_size : SExprs → ℕ
  exprs_size NoSExprs = 0
  exprs_size (MoreSExprs e es) = expr_size e + exprs_size es

abbrev mutual
  pub step_size : Step → ℕ
  step_size (Do id at e) = 9 + expr_size e
  step_size (Keep id at e) = 9 + expr_size e
  step_size (Let id at var keep e) = 14 + expr_size e
  step_size (If id at e a b) = 9 + expr_size e + (4 + steps_size a) + (4 + steps_size b)
  step_size (Each id at var keep e a) = 14 + expr_size e + (4 + steps_size a)
  step_size (Over id at var input a) = 14 + (4 + steps_size a)

  pub steps_size : Steps → ℕ
  steps_size NoSteps = 0
  steps_size (MoreSteps s ss) = step_size s + steps_size ss

-- a block: its count and its steps
abbrev pub block_size : Steps → ℕ
block_size ss = 4 + steps_size ss

-- a number of 64 bits, the greatest where the count is more
abbrev pub capped : ℕ → ℕ
capped n = min n (2 ^ 64 - 1)

abbrev pub code_size_of : Script → ℕ
code_size_of s = capped (block_size s.body)
