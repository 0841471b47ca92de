-- Which form each value has.
use Rattle.std.proofs.Common.{◌≡◌, ℕ, ℤ, List, Bool, ap, sym, ◌∙◌}
use Rattle.std.proofs.lemmas.Grind.{common_steps}
use Rattle.rb_trees.specs.declared.values.Value.{Value, out-Value}
use Rattle.rb_trees.specs.declared.values.Value.TheOpen.{Value-F}
use Rattle.rb_trees.specs.declared.values.Value.TheVariants as value
use Rattle.rb_trees.specs.declared.values.Value.TheViews.{out-roll-Value}

pub out_Unit : out-Value value.Unit ≡ Value-F.Unit
out_Unit = ap out-Value (sym value.rolls-Unit) ∙ out-roll-Value Value-F.Unit

pub out_Int : (n : ℤ) → out-Value (value.Int n) ≡ Value-F.Int n
out_Int n = ap out-Value (sym (value.rolls-Int n)) ∙ out-roll-Value (Value-F.Int n)

pub out_Bool : (truth : Bool) → out-Value (value.Bool truth) ≡ Value-F.Bool truth
out_Bool truth = ap out-Value (sym (value.rolls-Bool truth)) ∙ out-roll-Value (Value-F.Bool truth)

pub out_Text : (text : List ℕ) → out-Value (value.Text text) ≡ Value-F.Text text
out_Text text = ap out-Value (sym (value.rolls-Text text)) ∙ out-roll-Value (Value-F.Text text)

pub out_List : (items : List Value) → out-Value (value.List items) ≡ Value-F.List items
out_List items = ap out-Value (sym (value.rolls-List items)) ∙ out-roll-Value (Value-F.List items)

pub out_Ref : (object : ℕ) → out-Value (value.Ref object) ≡ Value-F.Ref object
out_Ref object = ap out-Value (sym (value.rolls-Ref object)) ∙ out-roll-Value (Value-F.Ref object)

pub out_Remote : (object : ℕ) → out-Value (value.Remote object) ≡ Value-F.Remote object
out_Remote object = ap out-Value (sym (value.rolls-Remote object)) ∙ out-roll-Value (Value-F.Remote object)

pub out_Rows : (rows : List Value) → out-Value (value.Rows rows) ≡ Value-F.Rows rows
out_Rows rows = ap out-Value (sym (value.rolls-Rows rows)) ∙ out-roll-Value (Value-F.Rows rows)

pub ruleset forms = (out_Unit, out_Int, out_Bool, out_Text, out_List, out_Ref, out_Remote, out_Rows)

pub ruleset values = (forms, common_steps)
