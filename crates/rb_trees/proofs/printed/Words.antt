-- The text of numbers and literals.
use Rattle.std.proofs.Common.{◌≡◌, ℕ, ℤ, List, [], ◌∷◌, Bool, ap, sym, ◌∙◌}
use Rattle.std.proofs.lemmas.Grind.{common_steps}
use Rattle.rb_trees.specs.declared.values.Value.{Value, out-Value}
use Rattle.rb_trees.specs.declared.values.Value.TheOpen.{Value-F}
use Rattle.rb_trees.specs.declared.values.Value.TheVariants as value
use Rattle.rb_trees.specs.declared.values.Value.TheViews as views
use Rattle.rb_trees.specs.printing.Words.{form_pieces, int_pieces, bool_piece, text_piece, literal_pieces}
use Rattle.rb_trees.proofs.printed.Pieces.{pieces}

pub literal_Int : (n : ℤ) → literal_pieces (value.Int n) ≡ int_pieces n
literal_Int n = ap (λ v. form_pieces (out-Value v)) (sym (value.rolls-Int n)) ∙ ap form_pieces (views.out-roll-Value (Value-F.Int n))

pub literal_Bool : (truth : Bool) → literal_pieces (value.Bool truth) ≡ bool_piece truth ∷ []
literal_Bool truth = ap (λ v. form_pieces (out-Value v)) (sym (value.rolls-Bool truth)) ∙ ap form_pieces (views.out-roll-Value (Value-F.Bool truth))

pub literal_Text : (text : List ℕ) → literal_pieces (value.Text text) ≡ text_piece text ∷ []
literal_Text text = ap (λ v. form_pieces (out-Value v)) (sym (value.rolls-Text text)) ∙ ap form_pieces (views.out-roll-Value (Value-F.Text text))

pub literal_Unit : literal_pieces value.Unit ≡ []
literal_Unit = ap (λ v. form_pieces (out-Value v)) (sym value.rolls-Unit) ∙ ap form_pieces (views.out-roll-Value Value-F.Unit)

pub literal_List : (items : List Value) → literal_pieces (value.List items) ≡ []
literal_List items = ap (λ v. form_pieces (out-Value v)) (sym (value.rolls-List items)) ∙ ap form_pieces (views.out-roll-Value (Value-F.List items))

pub literal_Ref : (object : ℕ) → literal_pieces (value.Ref object) ≡ []
literal_Ref object = ap (λ v. form_pieces (out-Value v)) (sym (value.rolls-Ref object)) ∙ ap form_pieces (views.out-roll-Value (Value-F.Ref object))

pub literal_Remote : (object : ℕ) → literal_pieces (value.Remote object) ≡ []
literal_Remote object = ap (λ v. form_pieces (out-Value v)) (sym (value.rolls-Remote object)) ∙ ap form_pieces (views.out-roll-Value (Value-F.Remote object))

pub literal_Rows : (rows : List Value) → literal_pieces (value.Rows rows) ≡ []
literal_Rows rows = ap (λ v. form_pieces (out-Value v)) (sym (value.rolls-Rows rows)) ∙ ap form_pieces (views.out-roll-Value (Value-F.Rows rows))

pub ruleset words = (pieces, common_steps)

pub ruleset literals = (literal_Int, literal_Bool, literal_Text, literal_Unit, literal_List, literal_Ref, literal_Remote, literal_Rows, common_steps)
