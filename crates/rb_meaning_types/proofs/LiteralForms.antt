-- The type of each form of a value.
use Rattle.std.proofs.Common.{◌≡◌, ℕ, ℤ, List, Bool as Truth, ap, sym, ◌∙◌}
use Rattle.rb_trees.specs.declared.values.Value.{Value}
use Rattle.rb_trees.specs.declared.values.Value.TheVariants as value
use Rattle.rb_trees.specs.declared.values.Value.TheOpen.{Value-F}
use Rattle.rb_trees.specs.declared.values.Value.TheViews.{out-roll-Value}
use Rattle.rb_meaning_types.specs.Kinds.{Int, Bool, Text, Unit}
use Rattle.rb_meaning_types.specs.Literals.{literal_form, literal_kind}

pub literal_Unit : literal_kind value.Unit ≡ Unit
unfolding literal_kind
literal_Unit = ap literal_kind (sym value.rolls-Unit) ∙ ap literal_form (out-roll-Value Value-F.Unit)

pub literal_Int : (number : ℤ) → literal_kind (value.Int number) ≡ Int
unfolding literal_kind
literal_Int number = ap literal_kind (sym (value.rolls-Int number)) ∙ ap literal_form (out-roll-Value (Value-F.Int number))

pub literal_Bool : (truth : Truth) → literal_kind (value.Bool truth) ≡ Bool
unfolding literal_kind
literal_Bool truth = ap literal_kind (sym (value.rolls-Bool truth)) ∙ ap literal_form (out-roll-Value (Value-F.Bool truth))

pub literal_Text : (text : List ℕ) → literal_kind (value.Text text) ≡ Text
unfolding literal_kind
literal_Text text = ap literal_kind (sym (value.rolls-Text text)) ∙ ap literal_form (out-roll-Value (Value-F.Text text))

pub literal_List : (items : List Value) → literal_kind (value.List items) ≡ Unit
unfolding literal_kind
literal_List items = ap literal_kind (sym (value.rolls-List items)) ∙ ap literal_form (out-roll-Value (Value-F.List items))

pub literal_Ref : (object : ℕ) → literal_kind (value.Ref object) ≡ Unit
unfolding literal_kind
literal_Ref object = ap literal_kind (sym (value.rolls-Ref object)) ∙ ap literal_form (out-roll-Value (Value-F.Ref object))

pub literal_Remote : (object : ℕ) → literal_kind (value.Remote object) ≡ Unit
unfolding literal_kind
literal_Remote object = ap literal_kind (sym (value.rolls-Remote object)) ∙ ap literal_form (out-roll-Value (Value-F.Remote object))

pub literal_Rows : (rows : List Value) → literal_kind (value.Rows rows) ≡ Unit
unfolding literal_kind
literal_Rows rows = ap literal_kind (sym (value.rolls-Rows rows)) ∙ ap literal_form (out-roll-Value (Value-F.Rows rows))

pub ruleset literals = (literal_Unit, literal_Int, literal_Bool, literal_Text, literal_List, literal_Ref, literal_Remote, literal_Rows)
