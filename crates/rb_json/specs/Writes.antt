-- Requests as JSON values.
use Rattle.std.specs.Prelude.{ℕ, List, [], ◌∷◌, codes}
use Rattle.rb_trees.specs.declared.values.Value.{Value, out-Value}
use Rattle.rb_trees.specs.declared.values.Value.TheOpen.{Value-F}
use Rattle.rb_trees.specs.mirror.Scripts as script
use Rattle.rb_trees.specs.mirror.Scripts.{SExpr, SExprs, Step, Steps}
use Rattle.rb_meaning_bytes.specs.formats.Messages.{Sent}
use Rattle.rb_meaning_bytes.specs.formats.ScriptBytes.{unary_code, binary_code}
use Rattle.serde_json.specs.Data.{Data, null, boolean, number, string, array, object, Items, no_items, item, Members, no_members, member, unsigned}
use Rattle.serde_json.specs.Find.{of_integer}

abbrev pub numeral : ℕ → Data
numeral n = number (unsigned n)

-- an array that begins with a word
abbrev pub tagged : List ℕ → Items → Data
tagged word ds = array (item (string word) ds)

-- ---- values; null stands for what isn't primitive

abbrev pub primitive_form : Value-F Value → Data
primitive_form (Value-F.Int z) = number (of_integer z)
primitive_form (Value-F.Bool b) = boolean b
primitive_form (Value-F.Text s) = string s
primitive_form _ = null

abbrev pub primitive_data : Value → Data
primitive_data v = primitive_form (out-Value v)

abbrev pub primitives_data : List Value → Items
primitives_data [] = no_items
primitives_data (v ∷ vs) = item (primitive_data v) (primitives_data vs)

-- the value of an input, which may be a list
abbrev pub input_form : Value-F Value → Data
input_form (Value-F.List items) = array (primitives_data items)
input_form v = primitive_form v

abbrev pub input_data : Value → Data
input_data v = input_form (out-Value v)

abbrev pub inputs_data : List Value → Items
inputs_data [] = no_items
inputs_data (v ∷ vs) = item (input_data v) (inputs_data vs)

-- ---- expressions

abbrev mutual
  pub expr_data : SExpr → Data
  expr_data (script.Lit v) = tagged (codes "lit") (item (primitive_data v) no_items)
  expr_data (script.Input k) = tagged (codes "in") (item (numeral k) no_items)
  expr_data (script.Var n) = tagged (codes "var") (item (numeral n) no_items)
  expr_data script.Root = tagged (codes "root") no_items
  expr_data (script.Unary op at e) = tagged (codes "un") (item (numeral (unary_code op)) (item (numeral at) (item (expr_data e) no_items)))
  expr_data (script.Binary op at a b) =
      tagged (codes "bin") (item (numeral (binary_code op)) (item (numeral at) (item (expr_data a) (item (expr_data b) no_items))))
  expr_data (script.Call at kind method target args) =
      tagged (codes "call") (item (numeral at) (item (numeral kind) (item (string method) (item (expr_data target) (item (array (exprs_data args)) no_items)))))

  pub exprs_data : SExprs → Items
  exprs_data script.NoSExprs = no_items
  exprs_data (script.MoreSExprs e es) = item (expr_data e) (exprs_data es)

-- ---- steps

-- the array of a step: its word, its number, its position, and more
abbrev pub headed : List ℕ → ℕ → ℕ → Items → Data
headed word id at ds = tagged word (item (numeral id) (item (numeral at) ds))

abbrev mutual
  pub step_data : Step → Data
  step_data (script.Do id at e) = headed (codes "do") id at (item (expr_data e) no_items)
  step_data (script.Keep id at e) = headed (codes "keep") id at (item (expr_data e) no_items)
  step_data (script.Let id at var keep e) = headed (codes "let") id at (item (numeral var) (item (boolean keep) (item (expr_data e) no_items)))
  step_data (script.If id at e a b) =
      headed (codes "if") id at (item (expr_data e) (item (array (steps_data a)) (item (array (steps_data b)) no_items)))
  step_data (script.Each id at var keep e a) =
      headed (codes "each") id at (item (numeral var) (item (boolean keep) (item (expr_data e) (item (array (steps_data a)) no_items))))
  step_data (script.Over id at var input a) =
      headed (codes "over") id at (item (numeral var) (item (numeral input) (item (array (steps_data a)) no_items)))

  pub steps_data : Steps → Items
  steps_data script.NoSteps = no_items
  steps_data (script.MoreSteps s ss) = item (step_data s) (steps_data ss)

-- ---- requests

-- the values of the inputs, and the steps
abbrev pub parts_data : List Value → Steps → Data
parts_data values steps = object (member (codes "inputs") (array (inputs_data values)) (member (codes "steps") (array (steps_data steps)) no_members))

abbrev pub request_data : Sent → Data
request_data x = parts_data x.values x.script.body
