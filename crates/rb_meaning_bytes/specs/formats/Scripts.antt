-- The format of scripts and of the values of their inputs, by the version and the texts of a pool.
use Rattle.std.specs.Prelude.{ℕ, zero, suc, ◌-◌, List, [], ◌∷◌, ◌++◌, nat_le}
use Rattle.rb_trees.specs.declared.code.UnOp.{UnOp}
use Rattle.rb_trees.specs.declared.code.UnOp.TheVariants as unary
use Rattle.rb_trees.specs.declared.code.BinOp.{BinOp}
use Rattle.rb_trees.specs.declared.code.BinOp.TheVariants as binary
use Rattle.rb_trees.specs.declared.values.Value.{Value}
use Rattle.rb_trees.specs.declared.values.Value.TheVariants as a_value
use Rattle.rb_trees.specs.declared.versions.Version.{Version}
use Rattle.rb_trees.specs.declared.versions.Version.TheVariants.{One, Two}
use Rattle.rb_trees.specs.ScriptLimits.{most_exprs, most_blocks}
use Rattle.rb_trees.specs.mirror.Scripts as tree
use Rattle.rb_trees.specs.mirror.Scripts.{SExpr, Step, Steps, sexprs_from, steps_from}
use Rattle.rb_meaning_bytes.specs.formats.Fields.{Test, Tag, Byte, Truth, Name, Text, Short}
use Rattle.rb_meaning_bytes.specs.formats.Formats as plain
use Rattle.rb_meaning_bytes.specs.formats.Formats.{Format, Done, the}
use Rattle.rb_meaning_bytes.specs.formats.Items.{items_of, most_items}
use Rattle.rb_meaning_bytes.specs.formats.Pools.{value_test, name_test, place_test, items_test, text_at, used_after}
use Rattle.rb_meaning_bytes.specs.formats.Staged.{Staged, ◌>>=◌, give, same, deeper, choose, times}
use Rattle.rb_meaning_bytes.specs.formats.Values.{natural, int_value, bool_value}

abbrev pub unary_ops : List (ℕ × Format UnOp)
unary_ops = (1, Done unary.Not) ∷ (2, Done unary.Neg) ∷ (3, Done unary.Len) ∷ (4, Done unary.Str) ∷ []

unfoldable pub unary_op : Format UnOp
unary_op = plain.choose unary_ops

abbrev pub binary_ops : List (ℕ × Format BinOp)
binary_ops = (1, Done binary.Add) ∷ (2, Done binary.Sub) ∷ (3, Done binary.Mul) ∷ (4, Done binary.Div) ∷ (5, Done binary.Rem)
    ∷ (6, Done binary.Eq) ∷ (7, Done binary.Ne) ∷ (8, Done binary.Lt) ∷ (9, Done binary.Le) ∷ (10, Done binary.Gt) ∷ (11, Done binary.Ge)
    ∷ (12, Done binary.And) ∷ (13, Done binary.Or) ∷ []

unfoldable pub binary_op : Format BinOp
binary_op = plain.choose binary_ops

-- What a call must give: nothing (0), a value of one of four forms (1 to 4: Int, Bool, Text, an object), or rows of values of
-- that form (5 to 8).
unfoldable pub kind : Format ℕ
kind = the (Tag (λ k. nat_le k 8))

-- ---- texts of a pool

-- the place of a text in the pool, and the text
abbrev pub pooled : List (List ℕ) → Test (List ℕ) → Staged (List ℕ)
pooled texts test = λ used. plain.◌>>=◌ (the (Short (place_test texts used test))) (λ place. Done (text_at texts place, used_after used place))

-- the name of a method
unfoldable pub name : Version → List (List ℕ) → Staged (List ℕ)
name One texts = same (the Name)
name Two texts = pooled texts name_test

-- a text that is a value
unfoldable pub text : Version → List (List ℕ) → Staged (List ℕ)
text One texts = same (the Text)
text Two texts = pooled texts value_test

-- The format of what stands behind a pool: all of it by the version and the texts of the pool. Version 1 has none.
module _ (version : Version) (texts : List (List ℕ)) where
  -- ---- values

  abbrev pub text_value : Staged Value
  text_value = do
    bytes ← text version texts
    give (a_value.Text bytes)

  abbrev pub value_forms : List (ℕ × Staged Value)
  value_forms = (0x01, same (int_value version)) ∷ (0x02, same bool_value) ∷ (0x03, text_value) ∷ []

  -- a primitive value
  unfoldable pub value : Staged Value
  value = choose value_forms

  -- ---- expressions, by the format of those within them

  abbrev pub literal : Staged SExpr
  literal = do
    v ← value
    give (tree.Lit v)

  abbrev pub input : Staged SExpr
  input = do
    n ← same (the Byte)
    give (tree.Input n)

  abbrev pub variable : Staged SExpr
  variable = do
    n ← same (natural version)
    give (tree.Var n)

  abbrev pub unary_expr : Staged SExpr → Staged SExpr
  unary_expr expr = do
    op ← same unary_op
    at ← same (natural version)
    a ← expr
    give (tree.Unary op at a)

  abbrev pub binary_expr : Staged SExpr → Staged SExpr
  binary_expr expr = do
    op ← same binary_op
    at ← same (natural version)
    a ← expr
    b ← expr
    give (tree.Binary op at a b)

  abbrev pub call : Staged SExpr → Staged SExpr
  call expr = do
    at ← same (natural version)
    k ← same kind
    method ← name version texts
    target ← expr
    count ← same (natural version)
    args ← times count expr
    give (tree.Call at k method target (sexprs_from args))

  abbrev pub expr_forms : Staged SExpr → List (ℕ × Staged SExpr)
  expr_forms expr = (0x20, literal) ∷ (0x21, input) ∷ (0x22, variable) ∷ (0x23, give tree.Root) ∷ (0x24, unary_expr expr)
      ∷ (0x25, binary_expr expr) ∷ (0x26, call expr) ∷ []

  -- an expression, with so many within each other
  unfoldable pub expr : ℕ → Staged SExpr
  expr zero = deeper
  expr (suc n) = choose (expr_forms (expr n))

  unfoldable pub whole_expr : Staged SExpr
  whole_expr = expr most_exprs

  -- ---- steps, by the format of the blocks within them

  abbrev pub do_step : Staged Step
  do_step = do
    id ← same (natural version)
    at ← same (natural version)
    e ← whole_expr
    give (tree.Do id at e)

  abbrev pub keep_step : Staged Step
  keep_step = do
    id ← same (natural version)
    at ← same (natural version)
    e ← whole_expr
    give (tree.Keep id at e)

  abbrev pub let_step : Staged Step
  let_step = do
    id ← same (natural version)
    at ← same (natural version)
    var ← same (natural version)
    keep ← same (the Truth)
    e ← whole_expr
    give (tree.Let id at var keep e)

  abbrev pub if_step : Staged Steps → Staged Step
  if_step block = do
    id ← same (natural version)
    at ← same (natural version)
    e ← whole_expr
    a ← block
    b ← block
    give (tree.If id at e a b)

  abbrev pub each_step : Staged Steps → Staged Step
  each_step block = do
    id ← same (natural version)
    at ← same (natural version)
    var ← same (natural version)
    keep ← same (the Truth)
    e ← whole_expr
    a ← block
    give (tree.Each id at var keep e a)

  abbrev pub over_step : Staged Steps → Staged Step
  over_step block = do
    id ← same (natural version)
    at ← same (natural version)
    var ← same (natural version)
    n ← same (the Byte)
    a ← block
    give (tree.Over id at var n a)

  abbrev pub list_steps : Version → Staged Steps → List (ℕ × Staged Step)
  list_steps One block = []
  list_steps Two block = (0x15, over_step block) ∷ []

  abbrev pub step_forms : Staged Steps → List (ℕ × Staged Step)
  step_forms block = (0x10, do_step) ∷ (0x11, keep_step) ∷ (0x12, let_step) ∷ (0x13, if_step block) ∷ (0x14, each_step block)
      ∷ list_steps version block

  unfoldable pub step : Staged Steps → Staged Step
  step block = choose (step_forms block)

  -- a block, with so many within each other
  unfoldable pub block : ℕ → Staged Steps
  block zero = deeper
  block (suc n) = do
    count ← same (natural version)
    steps ← times count (step (block n))
    give (steps_from steps)

  -- ---- inputs, with room for so many items of lists

  abbrev pub list_value : ℕ → Staged Value
  list_value room = do
    count ← same (the (Short (items_test room)))
    items ← times count value
    give (a_value.List items)

  abbrev pub list_forms : Version → ℕ → List (ℕ × Staged Value)
  list_forms One room = []
  list_forms Two room = (0x04, list_value room) ∷ []

  -- the value of an input
  unfoldable pub input_value : ℕ → Staged Value
  input_value room = choose (value_forms ++ list_forms version room)

  -- the values of so many inputs
  unfoldable pub input_values : ℕ → ℕ → Staged (List Value)
  input_values room zero = give []
  input_values room (suc n) = do
    v ← input_value room
    vs ← input_values (room - items_of v) n
    give (v ∷ vs)

  -- the values and the code
  abbrev pub values_and_code : ℕ → Staged (List Value × Steps)
  values_and_code count = do
    values ← input_values most_items count
    body ← block most_blocks
    give (values, body)
