-- How the parts of a script are spelled, and the texts that they use, as code sees them.
use Rattle.std.specs.Prelude.{ℕ, List}
use Rattle.rb_trees.specs.declared.values.Value.{Value}
use Rattle.rb_trees.specs.declared.scripts.SExpr as rust
use Rattle.rb_trees.specs.declared.scripts.Script as rust_script
use Rattle.rb_trees.specs.declared.scripts.Step as rust_step
use Rattle.rb_trees.specs.declared.scripts.StepForm as rust_form
use Rattle.rb_trees.specs.mirror.Scripts.{mirror_sexpr, mirror_sexprs, mirror_step, mirror_step_form, mirror_steps, mirror_script}
use Rattle.rb_meaning_bytes.specs.formats.Pools.{with_texts}
use Rattle.rb_meaning_bytes.specs.formats.ScriptBytes as bytes
use Rattle.rb_wire_script.specs.declared.writing.Spelling.{Spelling}

-- ---- bytes

abbrev pub natural : Spelling → ℕ → List ℕ
natural by n = bytes.natural_bytes by.version n

abbrev pub pooled : Spelling → List ℕ → List ℕ
pooled by text = bytes.pooled_bytes by.version by.texts text

abbrev pub literal : Spelling → Value → List ℕ
literal by v = bytes.literal_bytes by.version by.texts v

abbrev pub literals : Spelling → List Value → List ℕ
literals by vs = bytes.literals_bytes by.version by.texts vs

abbrev pub input : Spelling → Value → List ℕ
input by v = bytes.input_bytes by.version by.texts v

abbrev pub inputs : Spelling → List Value → List ℕ
inputs by vs = bytes.inputs_bytes by.version by.texts vs

abbrev pub expr : Spelling → rust.SExpr → List ℕ
expr by e = bytes.expr_bytes by.version by.texts (mirror_sexpr e)

abbrev pub exprs : Spelling → List rust.SExpr → List ℕ
exprs by es = bytes.exprs_bytes by.version by.texts (mirror_sexprs es)

abbrev pub head : Spelling → (tag id at : ℕ) → List ℕ
head by tag id at = bytes.head_bytes by.version by.texts tag id at

abbrev pub step : Spelling → rust_step.Step → List ℕ
step by s = bytes.step_bytes by.version by.texts (mirror_step s)

abbrev pub form : Spelling → rust_form.StepForm → (id at : ℕ) → List ℕ
form by f id at = bytes.step_bytes by.version by.texts (mirror_step_form f id at)

abbrev pub steps : Spelling → List rust_step.Step → List ℕ
steps by ss = bytes.steps_bytes by.version by.texts (mirror_steps ss)

abbrev pub block : Spelling → List rust_step.Step → List ℕ
block by ss = bytes.block_bytes by.version by.texts (mirror_steps ss)

abbrev pub message : Spelling → rust_script.Script → List Value → List ℕ
message by s values = bytes.message_bytes by.version by.texts (mirror_script s) values

-- ---- texts, with those that are known already

abbrev pub with_exprs : List (List ℕ) → List rust.SExpr → List (List ℕ)
with_exprs known es = with_texts known (bytes.exprs_texts (mirror_sexprs es))

abbrev pub with_expr : List (List ℕ) → rust.SExpr → List (List ℕ)
with_expr known e = with_texts known (bytes.expr_texts (mirror_sexpr e))

abbrev pub with_step : List (List ℕ) → rust_step.Step → List (List ℕ)
with_step known s = with_texts known (bytes.step_texts (mirror_step s))

abbrev pub with_steps : List (List ℕ) → List rust_step.Step → List (List ℕ)
with_steps known ss = with_texts known (bytes.steps_texts (mirror_steps ss))
