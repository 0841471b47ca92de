-- The literal of each form of a value.
use Rattle.std.proofs.Common.{◌≡◌, ℕ, ℤ, List, [], ◌++◌, Bool, map, ap, sym, ◌∙◌, append_assoc, append-nil}
use Rattle.std.proofs.lemmas.Grind.{common_steps}
use Rattle.std.specs.Prelude.{codes}
use Rattle.std.specs.Fmt.{decimal, signed_decimal}
use Rattle.rb_trees.specs.declared.values.Value.{Value}
use Rattle.rb_trees.specs.declared.values.Value.TheOpen.{Value-F}
use Rattle.rb_trees.specs.declared.values.Value.TheVariants as form
use Rattle.rb_trees.specs.declared.values.Value.TheFolds.{fold-roll-Value}
use Rattle.rb_meaning_code.specs.Operators.{bool_text}
use Rattle.rb_meaning.specs.Shown.{literal, value_step, text_literal, listed}

pub literal_Unit : literal form.Unit ≡ []
literal_Unit = ap literal (sym form.rolls-Unit) ∙ fold-roll-Value (List ℕ) value_step Value-F.Unit

pub literal_Int : (number : ℤ) → literal (form.Int number) ≡ signed_decimal number
literal_Int number = ap literal (sym (form.rolls-Int number)) ∙ fold-roll-Value (List ℕ) value_step (Value-F.Int number)

pub literal_Bool : (truth : Bool) → literal (form.Bool truth) ≡ bool_text truth
literal_Bool truth = ap literal (sym (form.rolls-Bool truth)) ∙ fold-roll-Value (List ℕ) value_step (Value-F.Bool truth)

pub literal_Text : (text : List ℕ) → literal (form.Text text) ≡ text_literal text
literal_Text text = ap literal (sym (form.rolls-Text text)) ∙ fold-roll-Value (List ℕ) value_step (Value-F.Text text)

pub literal_List : (items : List Value) → literal (form.List items) ≡ codes "[" ++ listed (map literal items) ++ codes "]"
literal_List items = ap literal (sym (form.rolls-List items)) ∙ fold-roll-Value (List ℕ) value_step (Value-F.List items)

pub literal_Ref : (object : ℕ) → literal (form.Ref object) ≡ codes "#" ++ decimal object
literal_Ref object = ap literal (sym (form.rolls-Ref object)) ∙ fold-roll-Value (List ℕ) value_step (Value-F.Ref object)

pub literal_Remote : (object : ℕ) → literal (form.Remote object) ≡ []
literal_Remote object = ap literal (sym (form.rolls-Remote object)) ∙ fold-roll-Value (List ℕ) value_step (Value-F.Remote object)

pub literal_Rows : (rows : List Value) → literal (form.Rows rows) ≡ []
literal_Rows rows = ap literal (sym (form.rolls-Rows rows)) ∙ fold-roll-Value (List ℕ) value_step (Value-F.Rows rows)

pub ruleset literals = (literal_Unit, literal_Int, literal_Bool, literal_Text, literal_List, literal_Ref, literal_Remote, literal_Rows, append_assoc, append-nil, common_steps)
