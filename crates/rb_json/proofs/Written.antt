-- The compact text of a request, and what it reads as.
use Rattle.std.proofs.Common.{◌≡◌, ◌≤◌, ℕ, ℤ, pos, negsuc, List, [], ◌∷◌, refl, ap, sym, ◌∙◌, Bool, true, false, ◌||◌, Option, None, Some, Ok}
use Rattle.std.proofs.lemmas.Grind.{common_steps}
use Rattle.std.specs.Str.{IsUtf8}
use Rattle.rb_trees.specs.Outcome.{◌>>=◌, refused_as}
use Rattle.rb_trees.specs.declared.forests.NodeFault.{NodeFault}
use Rattle.rb_trees.specs.declared.scripts.Script as tree
use Rattle.rb_trees.specs.declared.values.Value.{Value, out-Value}
use Rattle.rb_trees.specs.declared.values.Value.TheOpen.{Value-F}
use Rattle.rb_trees.specs.mirror.Scripts as script
use Rattle.rb_trees.specs.mirror.Scripts.{SExpr, SExprs, Step, Steps, mirror_script}
use Rattle.rb_trees.specs.mirror.Forests as forest
use Rattle.rb_trees.specs.mirror.Forests.{Node, Nodes, Entry, Entries}
use Rattle.rb_meaning_bytes.specs.formats.FormedScripts.{FormedScript, AreInputs}
use Rattle.rb_meaning_bytes.specs.formats.Messages.{Sent}
use Rattle.serde_json.specs.Data.{Data, array}
use Rattle.serde_json.specs.Find.{of_integer, is_float}
use Rattle.serde_json.specs.Read.{read}
use Rattle.serde_json.specs.Written.{has_float, items_have_float}
use Rattle.rb_json.specs.declared.stops.JsonRefusal.TheVariants.{WrongForm}
use Rattle.rb_json.specs.Mirrors.{sent}
use Rattle.rb_json.specs.Requests.{request_of, request_in}
use Rattle.rb_json.specs.Writes.{primitive_form, primitive_data, primitives_data, input_form, input_data, inputs_data, expr_data, exprs_data, step_data, steps_data, request_data}
use Rattle.rb_json.specs.Replies.{fault_data, node_data, nodes_data, entry_data, entries_data, refusal_data}
use Rattle.rb_json.proofs.Back.{request_back}
use Rattle.rb_json.proofs.Whole.{read_so}

-- ---- no number that is written is a float

either : (a b : Bool) → a ≡ false → b ≡ false → (a || b) ≡ false
either a b h k = ap (λ a. a || b) h ∙ k

whole_plain : (z : ℤ) → is_float (of_integer z) ≡ false
whole_plain (pos n) = refl
whole_plain (negsuc n) = refl

form_plain : (x : Value-F Value) → has_float (primitive_form x) ≡ false
form_plain (Value-F.Int z) = whole_plain z
form_plain (Value-F.Bool b) = refl
form_plain (Value-F.Text s) = refl
form_plain Value-F.Unit = refl
form_plain (Value-F.List vs) = refl
form_plain (Value-F.Ref n) = refl
form_plain (Value-F.Remote n) = refl
form_plain (Value-F.Rows vs) = refl

values_plain : (vs : List Value) → items_have_float (primitives_data vs) ≡ false
values_plain [] = refl
values_plain (v ∷ vs) = either (has_float (primitive_data v)) (items_have_float (primitives_data vs)) (form_plain (out-Value v)) (values_plain vs)

input_plain : (x : Value-F Value) → has_float (input_form x) ≡ false
input_plain (Value-F.Int z) = whole_plain z
input_plain (Value-F.Bool b) = refl
input_plain (Value-F.Text s) = refl
input_plain Value-F.Unit = refl
input_plain (Value-F.List vs) = values_plain vs
input_plain (Value-F.Ref n) = refl
input_plain (Value-F.Remote n) = refl
input_plain (Value-F.Rows vs) = refl

inputs_plain : (vs : List Value) → items_have_float (inputs_data vs) ≡ false
inputs_plain [] = refl
inputs_plain (v ∷ vs) = either (has_float (input_data v)) (items_have_float (inputs_data vs)) (input_plain (out-Value v)) (inputs_plain vs)

mutual
  expr_plain : (e : SExpr) → has_float (expr_data e) ≡ false
  expr_plain (script.Lit v) = either (has_float (primitive_data v)) false (form_plain (out-Value v)) refl
  expr_plain (script.Input k) = refl
  expr_plain (script.Var n) = refl
  expr_plain script.Root = refl
  expr_plain (script.Unary op at e) = either (has_float (expr_data e)) false (expr_plain e) refl
  expr_plain (script.Binary op at a b) =
      either (has_float (expr_data a)) (has_float (expr_data b) || false) (expr_plain a) (either (has_float (expr_data b)) false (expr_plain b) refl)
  expr_plain (script.Call at kind method target args) =
      either (has_float (expr_data target)) (items_have_float (exprs_data args) || false) (expr_plain target) (either (items_have_float (exprs_data args)) false (exprs_plain args) refl)

  exprs_plain : (es : SExprs) → items_have_float (exprs_data es) ≡ false
  exprs_plain script.NoSExprs = refl
  exprs_plain (script.MoreSExprs e es) = either (has_float (expr_data e)) (items_have_float (exprs_data es)) (expr_plain e) (exprs_plain es)

mutual
  step_plain : (s : Step) → has_float (step_data s) ≡ false
  step_plain (script.Do id at e) = either (has_float (expr_data e)) false (expr_plain e) refl
  step_plain (script.Keep id at e) = either (has_float (expr_data e)) false (expr_plain e) refl
  step_plain (script.Let id at var keep e) = either (has_float (expr_data e)) false (expr_plain e) refl
  step_plain (script.If id at e a b) =
      either (has_float (expr_data e)) (items_have_float (steps_data a) || (items_have_float (steps_data b) || false)) (expr_plain e)
      (either (items_have_float (steps_data a)) (items_have_float (steps_data b) || false) (steps_plain a) (either (items_have_float (steps_data b)) false (steps_plain b) refl))
  step_plain (script.Each id at var keep e a) =
      either (has_float (expr_data e)) (items_have_float (steps_data a) || false) (expr_plain e) (either (items_have_float (steps_data a)) false (steps_plain a) refl)
  step_plain (script.Over id at var input a) = either (items_have_float (steps_data a)) false (steps_plain a) refl

  steps_plain : (ss : Steps) → items_have_float (steps_data ss) ≡ false
  steps_plain script.NoSteps = refl
  steps_plain (script.MoreSteps s ss) = either (has_float (step_data s)) (items_have_float (steps_data ss)) (step_plain s) (steps_plain ss)

pub request_plain : (x : Sent) → has_float (request_data x) ≡ false
request_plain x =
    either (items_have_float (inputs_data x.values)) (items_have_float (steps_data x.script.body) || false) (inputs_plain x.values)
    (either (items_have_float (steps_data x.script.body)) false (steps_plain x.script.body) refl)

fault_plain : (f : Option NodeFault) → has_float (fault_data f) ≡ false
fault_plain None = refl
fault_plain (Some f) = refl

mutual
  pub node_plain : (n : Node) → has_float (node_data n) ≡ false
  node_plain (forest.Holds es f) = either (items_have_float (entries_data es)) (has_float (fault_data f) || false) (entries_plain es) (either (has_float (fault_data f)) false (fault_plain f) refl)

  entry_plain : (e : Entry) → has_float (entry_data e) ≡ false
  entry_plain (forest.Value v) = either (has_float (primitive_data v)) false (form_plain (out-Value v)) refl
  entry_plain (forest.Branch taken n) = either (has_float (node_data n)) false (node_plain n) refl
  entry_plain (forest.Rows ns) = either (items_have_float (nodes_data ns)) false (nodes_plain ns) refl

  entries_plain : (es : Entries) → items_have_float (entries_data es) ≡ false
  entries_plain forest.NoEntries = refl
  entries_plain (forest.MoreEntries e es) = either (has_float (entry_data e)) (items_have_float (entries_data es)) (entry_plain e) (entries_plain es)

  nodes_plain : (ns : Nodes) → items_have_float (nodes_data ns) ≡ false
  nodes_plain forest.NoNodes = refl
  nodes_plain (forest.MoreNodes n ns) = either (has_float (node_data n)) (items_have_float (nodes_data ns)) (node_plain n) (nodes_plain ns)

-- ---- what a request reads as

pub reads_as : (text : List ℕ) (s : tree.Script) (values : List Value) → FormedScript (mirror_script s) → AreInputs (mirror_script s) values → IsUtf8 text
    → read text ≡ Some (request_data (sent s values)) → request_in text ≡ Ok (sent s values)
unfolding request_in
reads_as text s values formed inputs utf8 is =
    ap (λ r. r >>= λ d. refused_as WrongForm (request_of d)) (read_so text (request_data (sent s values)) utf8 is)
    ∙ ap (refused_as WrongForm) (request_back (sent s values) (record { version = refl; script = formed; values = inputs }))

pub ruleset requests = (request_plain, reads_as, common_steps)
