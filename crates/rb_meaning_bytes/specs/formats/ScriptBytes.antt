-- The bytes of a script by the version, one equation a form.
use Rattle.std.specs.Prelude.{ℕ, ℤ, suc, ◌+◌, List, [], ◌∷◌, ◌++◌, length}
use Rattle.std.specs.Int.{w64, cast_unsigned}
use Rattle.rb_trees.specs.declared.values.Value.{Value, out-Value}
use Rattle.rb_trees.specs.declared.values.Value.TheOpen.{Value-F}
use Rattle.rb_trees.specs.declared.code.UnOp.{UnOp}
use Rattle.rb_trees.specs.declared.code.UnOp.TheVariants as unary
use Rattle.rb_trees.specs.declared.code.BinOp.{BinOp}
use Rattle.rb_trees.specs.declared.code.BinOp.TheVariants as binary
use Rattle.rb_trees.specs.declared.versions.Version.{Version}
use Rattle.rb_trees.specs.declared.versions.Version.TheVariants.{One, Two}
use Rattle.rb_trees.specs.mirror.Scripts as tree
use Rattle.rb_trees.specs.mirror.Scripts.{SExpr, SExprs, Step, Steps, Script}
use Rattle.rb_meaning_bytes.specs.formats.Shorts.{short, zig}
use Rattle.rb_meaning_bytes.specs.formats.Fields.{number, wide_number, text, brief, truth}
use Rattle.rb_meaning_bytes.specs.formats.Pools.{place_in, with_texts}
use Rattle.rb_meaning_bytes.specs.formats.Values.{version_byte}

-- ---- numbers, texts and values outside of a pool

abbrev pub natural_bytes : Version → ℕ → List ℕ
natural_bytes One n = number n
natural_bytes Two n = short n

abbrev pub integer_bytes : Version → ℤ → List ℕ
integer_bytes One z = wide_number (cast_unsigned w64 z)
integer_bytes Two z = zig z

abbrev pub words_bytes : Version → List ℕ → List ℕ
words_bytes One bytes = text bytes
words_bytes Two bytes = brief bytes

-- A value that isn't primitive has no spelling.
abbrev pub value_form : Version → Value-F Value → List ℕ
value_form version (Value-F.Int z) = 0x01 ∷ integer_bytes version z
value_form version (Value-F.Bool b) = 0x02 ∷ truth b
value_form version (Value-F.Text bytes) = 0x03 ∷ words_bytes version bytes
value_form version _ = []

abbrev pub value_bytes : Version → Value → List ℕ
value_bytes version v = value_form version (out-Value v)

abbrev pub unary_code : UnOp → ℕ
unary_code unary.Not = 1
unary_code unary.Neg = 2
unary_code unary.Len = 3
unary_code unary.Str = 4

abbrev pub binary_code : BinOp → ℕ
binary_code binary.Add = 1
binary_code binary.Sub = 2
binary_code binary.Mul = 3
binary_code binary.Div = 4
binary_code binary.Rem = 5
binary_code binary.Eq = 6
binary_code binary.Ne = 7
binary_code binary.Lt = 8
binary_code binary.Le = 9
binary_code binary.Gt = 10
binary_code binary.Ge = 11
binary_code binary.And = 12
binary_code binary.Or = 13

abbrev pub count_exprs : SExprs → ℕ
count_exprs tree.NoSExprs = 0
count_exprs (tree.MoreSExprs e es) = suc (count_exprs es)

abbrev pub count_steps : Steps → ℕ
count_steps tree.NoSteps = 0
count_steps (tree.MoreSteps s ss) = suc (count_steps ss)

-- ---- by the texts of a pool, where version 2 has places

abbrev pub pooled_bytes : Version → List (List ℕ) → List ℕ → List ℕ
pooled_bytes One texts bytes = text bytes
pooled_bytes Two texts bytes = short (place_in texts bytes)

module _ (version : Version) (texts : List (List ℕ)) where
  abbrev pub literal_form : Value-F Value → List ℕ
  literal_form (Value-F.Text bytes) = 0x03 ∷ pooled_bytes version texts bytes
  literal_form v = value_form version v

  -- a primitive value
  abbrev pub literal_bytes : Value → List ℕ
  literal_bytes v = literal_form (out-Value v)

  abbrev pub literals_bytes : List Value → List ℕ
  literals_bytes [] = []
  literals_bytes (v ∷ vs) = literal_bytes v ++ literals_bytes vs

  abbrev mutual
    pub expr_bytes : SExpr → List ℕ
    expr_bytes (tree.Lit v) = 0x20 ∷ literal_bytes v
    expr_bytes (tree.Input n) = 0x21 ∷ n ∷ []
    expr_bytes (tree.Var n) = 0x22 ∷ natural_bytes version n
    expr_bytes tree.Root = 0x23 ∷ []
    expr_bytes (tree.Unary op at a) = 0x24 ∷ unary_code op ∷ natural_bytes version at ++ expr_bytes a
    expr_bytes (tree.Binary op at a b) = 0x25 ∷ binary_code op ∷ natural_bytes version at ++ expr_bytes a ++ expr_bytes b
    expr_bytes (tree.Call at kind method target args) =
        0x26 ∷ natural_bytes version at ++ kind ∷ pooled_bytes version texts method ++ expr_bytes target
        ++ natural_bytes version (count_exprs args) ++ exprs_bytes args

    pub exprs_bytes : SExprs → List ℕ
    exprs_bytes tree.NoSExprs = []
    exprs_bytes (tree.MoreSExprs e es) = expr_bytes e ++ exprs_bytes es

  -- what each step begins with
  abbrev pub head_bytes : (tag id at : ℕ) → List ℕ
  head_bytes tag id at = tag ∷ natural_bytes version id ++ natural_bytes version at

  abbrev mutual
    pub step_bytes : Step → List ℕ
    step_bytes (tree.Do id at e) = head_bytes 0x10 id at ++ expr_bytes e
    step_bytes (tree.Keep id at e) = head_bytes 0x11 id at ++ expr_bytes e
    step_bytes (tree.Let id at var keep e) = head_bytes 0x12 id at ++ natural_bytes version var ++ truth keep ++ expr_bytes e
    step_bytes (tree.If id at e a b) = head_bytes 0x13 id at ++ expr_bytes e
        ++ natural_bytes version (count_steps a) ++ steps_bytes a ++ natural_bytes version (count_steps b) ++ steps_bytes b
    step_bytes (tree.Each id at var keep e a) = head_bytes 0x14 id at ++ natural_bytes version var ++ truth keep ++ expr_bytes e
        ++ natural_bytes version (count_steps a) ++ steps_bytes a
    step_bytes (tree.Over id at var input a) = head_bytes 0x15 id at ++ natural_bytes version var ++ input ∷ natural_bytes version (count_steps a) ++ steps_bytes a

    pub steps_bytes : Steps → List ℕ
    steps_bytes tree.NoSteps = []
    steps_bytes (tree.MoreSteps s ss) = step_bytes s ++ steps_bytes ss

  -- a block is the code of a script, too
  abbrev pub block_bytes : Steps → List ℕ
  block_bytes ss = natural_bytes version (count_steps ss) ++ steps_bytes ss

  abbrev pub input_form : Value-F Value → List ℕ
  input_form (Value-F.List items) = 0x04 ∷ natural_bytes version (length items) ++ literals_bytes items
  input_form v = literal_form v

  -- the value of an input
  abbrev pub input_bytes : Value → List ℕ
  input_bytes v = input_form (out-Value v)

  abbrev pub inputs_bytes : List Value → List ℕ
  inputs_bytes [] = []
  inputs_bytes (v ∷ vs) = input_bytes v ++ inputs_bytes vs

-- ---- how many steps a block has, with those in their blocks

abbrev mutual
  pub step_weight : Step → ℕ
  step_weight (tree.If id at e a b) = 1 + steps_weight a + steps_weight b
  step_weight (tree.Each id at var keep e a) = 1 + steps_weight a
  step_weight (tree.Over id at var input a) = 1 + steps_weight a
  step_weight _ = 1

  pub steps_weight : Steps → ℕ
  steps_weight tree.NoSteps = 0
  steps_weight (tree.MoreSteps s ss) = step_weight s + steps_weight ss

-- ---- the texts that a script and the values of its inputs use, in reading order

abbrev pub form_texts : Value-F Value → List (List ℕ)
form_texts (Value-F.Text bytes) = bytes ∷ []
form_texts _ = []

abbrev pub literal_texts : Value → List (List ℕ)
literal_texts v = form_texts (out-Value v)

abbrev pub literals_texts : List Value → List (List ℕ)
literals_texts [] = []
literals_texts (v ∷ vs) = literal_texts v ++ literals_texts vs

abbrev mutual
  pub expr_texts : SExpr → List (List ℕ)
  expr_texts (tree.Lit v) = literal_texts v
  expr_texts (tree.Input n) = []
  expr_texts (tree.Var n) = []
  expr_texts tree.Root = []
  expr_texts (tree.Unary op at a) = expr_texts a
  expr_texts (tree.Binary op at a b) = expr_texts a ++ expr_texts b
  expr_texts (tree.Call at kind method target args) = method ∷ expr_texts target ++ exprs_texts args

  pub exprs_texts : SExprs → List (List ℕ)
  exprs_texts tree.NoSExprs = []
  exprs_texts (tree.MoreSExprs e es) = expr_texts e ++ exprs_texts es

abbrev mutual
  pub step_texts : Step → List (List ℕ)
  step_texts (tree.Do id at e) = expr_texts e
  step_texts (tree.Keep id at e) = expr_texts e
  step_texts (tree.Let id at var keep e) = expr_texts e
  step_texts (tree.If id at e a b) = expr_texts e ++ steps_texts a ++ steps_texts b
  step_texts (tree.Each id at var keep e a) = expr_texts e ++ steps_texts a
  step_texts (tree.Over id at var input a) = steps_texts a

  pub steps_texts : Steps → List (List ℕ)
  steps_texts tree.NoSteps = []
  steps_texts (tree.MoreSteps s ss) = step_texts s ++ steps_texts ss

abbrev pub input_form_texts : Value-F Value → List (List ℕ)
input_form_texts (Value-F.List items) = literals_texts items
input_form_texts v = form_texts v

abbrev pub inputs_texts : List Value → List (List ℕ)
inputs_texts [] = []
inputs_texts (v ∷ vs) = input_form_texts (out-Value v) ++ inputs_texts vs

-- ---- messages

-- the texts of the pool: in version 2 each that is used, once, in order of first use
abbrev pub pool_of : Version → Script → List Value → List (List ℕ)
pool_of One s values = []
pool_of Two s values = with_texts [] (inputs_texts values ++ steps_texts s.body)

abbrev pub texts_bytes : List (List ℕ) → List ℕ
texts_bytes [] = []
texts_bytes (t ∷ ts) = brief t ++ texts_bytes ts

abbrev pub pool_bytes : Version → List (List ℕ) → List ℕ
pool_bytes One texts = []
pool_bytes Two texts = short (length texts) ++ texts_bytes texts

-- a script with the values of its inputs, by the texts of a pool
abbrev pub message_bytes : Version → List (List ℕ) → Script → List Value → List ℕ
message_bytes version texts s values =
    version_byte version ∷ pool_bytes version texts ++ s.inputs ∷ inputs_bytes version texts values ++ block_bytes version texts s.body

abbrev pub script_bytes : Version → Script → List Value → List ℕ
script_bytes version s values = message_bytes version (pool_of version s values) s values
