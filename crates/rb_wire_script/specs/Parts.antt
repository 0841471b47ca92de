-- The parts of a message behind a pool, as code reads them.
use Rattle.std.specs.Prelude.{ℕ, List}
use Rattle.rb_trees.specs.declared.values.Value.{Value}
use Rattle.rb_trees.specs.mirror.Scripts.{SExpr, Step, Steps}
use Rattle.rb_meaning_bytes.specs.formats.Reading.{Read, read}
use Rattle.rb_meaning_bytes.specs.formats.Scripts as format
use Rattle.rb_meaning_bytes.specs.formats.Staged as staged
use Rattle.rb_meaning_bytes.specs.formats.Staged.{Used, Staged}
use Rattle.rb_wire_script.specs.declared.pools.Place.{Place}
use Rattle.rb_wire_script.specs.declared.pools.Pool.{Pool}

-- what reading gives from a place on
abbrev pub reads : {A : Type 0} → Staged A → Place → Read (Used A)
reads F from = read (F from.used) from.bytes.now

abbrev pub value : Pool → Staged Value
value pool = format.value pool.version pool.texts

abbrev pub list_value : Pool → (room : ℕ) → Staged Value
list_value pool room = format.list_value pool.version pool.texts room

abbrev pub input_value : Pool → (room : ℕ) → Staged Value
input_value pool room = format.input_value pool.version pool.texts room

abbrev pub input_values : Pool → (room count : ℕ) → Staged (List Value)
input_values pool room count = format.input_values pool.version pool.texts room count

abbrev pub values : Pool → (count : ℕ) → Staged (List Value)
values pool count = staged.times count (value pool)

abbrev pub text_value : Pool → Staged Value
text_value pool = format.text_value pool.version pool.texts

-- ---- expressions, with so many within each other

abbrev pub expr : Pool → (left : ℕ) → Staged SExpr
expr pool left = format.expr pool.version pool.texts left

abbrev pub exprs : Pool → (left count : ℕ) → Staged (List SExpr)
exprs pool left count = staged.times count (expr pool left)

abbrev pub unary : Pool → (left : ℕ) → Staged SExpr
unary pool left = format.unary_expr pool.version pool.texts (expr pool left)

abbrev pub binary : Pool → (left : ℕ) → Staged SExpr
binary pool left = format.binary_expr pool.version pool.texts (expr pool left)

abbrev pub call : Pool → (left : ℕ) → Staged SExpr
call pool left = format.call pool.version pool.texts (expr pool left)

abbrev pub whole_expr : Pool → Staged SExpr
whole_expr pool = format.whole_expr pool.version pool.texts

-- ---- steps, with so many blocks within each other

abbrev pub block : Pool → (left : ℕ) → Staged Steps
block pool left = format.block pool.version pool.texts left

abbrev pub step : Pool → (left : ℕ) → Staged Step
step pool left = format.step pool.version pool.texts (block pool left)

abbrev pub steps : Pool → (left count : ℕ) → Staged (List Step)
steps pool left count = staged.times count (step pool left)

abbrev pub do_step : Pool → Staged Step
do_step pool = format.do_step pool.version pool.texts

abbrev pub keep_step : Pool → Staged Step
keep_step pool = format.keep_step pool.version pool.texts

abbrev pub let_step : Pool → Staged Step
let_step pool = format.let_step pool.version pool.texts

abbrev pub if_step : Pool → (left : ℕ) → Staged Step
if_step pool left = format.if_step pool.version pool.texts (block pool left)

abbrev pub each_step : Pool → (left : ℕ) → Staged Step
each_step pool left = format.each_step pool.version pool.texts (block pool left)

abbrev pub over_step : Pool → (left : ℕ) → Staged Step
over_step pool left = format.over_step pool.version pool.texts (block pool left)
