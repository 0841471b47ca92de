-- Values that are those of inputs spell their bytes, where there is room for the items of lists.
use Rattle.std.proofs.Common.{ℕ, ◌-◌, ◌<◌, ◌≤◌, ◌^◌, nat_le, List, [], ◌∷◌, ◌++◌, length, refl, sym, subst, arith}
use Rattle.std.proofs.lemmas.Bool.{le-leb}
use Rattle.rb_trees.specs.declared.values.Value.{Value, out-Value}
use Rattle.rb_trees.specs.declared.values.Value.TheOpen.{Value-F}
use Rattle.rb_trees.specs.declared.values.Value.TheVariants as a_value
use Rattle.rb_trees.specs.declared.values.Value.TheViews.{roll-Value, roll-out-Value}
use Rattle.rb_trees.specs.declared.versions.Version.{Version}
use Rattle.rb_trees.specs.declared.versions.Version.TheVariants.{One, Two}
use Rattle.rb_meaning_bytes.specs.formats.Fields.{Short, too_many_items}
use Rattle.rb_meaning_bytes.specs.formats.Formats.{the}
use Rattle.rb_meaning_bytes.specs.formats.Staged.{times}
use Rattle.rb_meaning_bytes.specs.formats.Items.{form_items, items_of, count_items}
use Rattle.rb_meaning_bytes.specs.formats.Pools.{items_test}
use Rattle.rb_meaning_bytes.specs.formats.Scripts.{value, value_forms, list_forms, input_value, input_values}
use Rattle.rb_meaning_bytes.specs.formats.ScriptBytes.{natural_bytes, literal_bytes, literals_bytes, literal_texts, literals_texts, input_form, input_bytes, inputs_bytes, input_form_texts, inputs_texts}
use Rattle.rb_meaning_bytes.specs.formats.FormedScripts.{ArePrimitive}
use Rattle.rb_meaning_bytes.proofs.formats.Values.{the_spelled, met_unless}
use Rattle.rb_meaning_bytes.proofs.formats.Inputs.{fine_form, AreFine}
use Rattle.rb_meaning_bytes.proofs.formats.StagedSpelled.{Writes, given, behind, behind_same, lastly, below}
use Rattle.rb_meaning_bytes.proofs.formats.PooledTexts.{IsPool, int_form_spelled, bool_form_spelled, text_form_spelled, literal_spelled}
use Rattle.rb_meaning_bytes.proofs.formats.OnlyInputs.{FormSuits, InputsSuit}
use Rattle.rb_meaning_bytes.proofs.formats.PoolLaws.{Words}

suit_split : (version : Version) (v : Value) (vs : List Value) → InputsSuit version (v ∷ vs) → FormSuits version (out-Value v) × InputsSuit version vs
suit_split One v vs h = h
suit_split Two v vs h = (tt, tt)

items_spelled : (version : Version) (texts : Words) → IsPool version texts → (vs : List Value) → ArePrimitive vs
    → Writes version texts (times (length vs) (value version texts)) (literals_bytes version texts vs) (literals_texts vs) vs
unfolding times
items_spelled version texts pool [] h = given version texts []
items_spelled version texts pool (v ∷ vs) h = behind version texts (value version texts) _ (literal_bytes version texts v) (literals_bytes version texts vs) (literal_texts v) (literals_texts vs) v _ (literal_spelled version texts pool v h.0)
    (lastly version texts (times (length vs) (value version texts)) (λ xs. v ∷ xs) (literals_bytes version texts vs) (literals_texts vs) vs (items_spelled version texts pool vs h.1))

list_spelled : (version : Version) (texts : Words) → IsPool version texts → (room : ℕ) (items : List Value) → ArePrimitive items → FormSuits version (Value-F.List items) → length items ≤ room → length items < 2 ^ 32
    → Writes version texts (input_value version texts room) (input_form version texts (Value-F.List items)) (literals_texts items) (a_value.List items)
unfolding input_value
list_spelled One texts pool room items h o r l = absurd o
list_spelled Two texts pool room items h o r l =
    below Two texts (value_forms Two texts ++ list_forms Two texts Two room) 4 _ _ (a_value.List items) refl (omega arith)
    (behind_same Two texts (the (Short (items_test room))) _ (natural_bytes Two (length items)) (literals_bytes Two texts items) (literals_texts items) (length items) _
    (the_spelled (Short (items_test room)) (length items) (l, met_unless (nat_le (length items) room) too_many_items (le-leb (length items) room r)))
    (lastly Two texts (times (length items) (value Two texts)) a_value.List (literals_bytes Two texts items) (literals_texts items) items (items_spelled Two texts pool items h)))

module _ (version : Version) (texts : Words) (pool : IsPool version texts) where
  input_at : (room : ℕ) (x : Value-F Value) → fine_form x → FormSuits version x → form_items x ≤ room → room < 2 ^ 32
      → Writes version texts (input_value version texts room) (input_form version texts x) (input_form_texts x) (roll-Value x)
  unfolding input_value
  input_at room (Value-F.Int z) h o r l = subst (λ w. Writes version texts (input_value version texts room) (input_form version texts (Value-F.Int z)) [] w) (sym (a_value.rolls-Int z))
      (below version texts (value_forms version texts ++ list_forms version texts version room) 1 _ [] (a_value.Int z) refl (omega arith) (int_form_spelled version texts z h))
  input_at room (Value-F.Bool b) h o r l = subst (λ w. Writes version texts (input_value version texts room) (input_form version texts (Value-F.Bool b)) [] w) (sym (a_value.rolls-Bool b))
      (below version texts (value_forms version texts ++ list_forms version texts version room) 2 _ [] (a_value.Bool b) refl (omega arith) (bool_form_spelled version texts b))
  input_at room (Value-F.Text t) h o r l = subst (λ w. Writes version texts (input_value version texts room) (input_form version texts (Value-F.Text t)) (t ∷ []) w) (sym (a_value.rolls-Text t))
      (below version texts (value_forms version texts ++ list_forms version texts version room) 3 _ (t ∷ []) (a_value.Text t) refl (omega arith) (text_form_spelled version texts pool t h))
  input_at room (Value-F.List items) h o r l = subst (λ w. Writes version texts (input_value version texts room) (input_form version texts (Value-F.List items)) (literals_texts items) w) (sym (a_value.rolls-List items))
      (list_spelled version texts pool room items h o r (omega arith))
  input_at room Value-F.Unit h o r l = absurd h
  input_at room (Value-F.Ref n) h o r l = absurd h
  input_at room (Value-F.Remote n) h o r l = absurd h
  input_at room (Value-F.Rows vs) h o r l = absurd h

  input_spelled : (room : ℕ) (v : Value) → fine_form (out-Value v) → FormSuits version (out-Value v) → items_of v ≤ room → room < 2 ^ 32
      → Writes version texts (input_value version texts room) (input_bytes version texts v) (input_form_texts (out-Value v)) v
  input_spelled room v h o r l =
      subst (λ w. Writes version texts (input_value version texts room) (input_bytes version texts v) (input_form_texts (out-Value v)) w) (roll-out-Value v) (input_at room (out-Value v) h o r l)

  pub inputs_spelled : (room : ℕ) (vs : List Value) → AreFine vs → InputsSuit version vs → count_items vs ≤ room → room < 2 ^ 32
      → Writes version texts (input_values version texts room (length vs)) (inputs_bytes version texts vs) (inputs_texts vs) vs
  unfolding input_values
  inputs_spelled room [] h o r l = given version texts []
  inputs_spelled room (v ∷ vs) h o r l =
      let s = suit_split version v vs o in
      behind version texts (input_value version texts room) _ (input_bytes version texts v) (inputs_bytes version texts vs) (input_form_texts (out-Value v)) (inputs_texts vs) v _
      (input_spelled room v h.0 s.0 (omega arith) l)
      (lastly version texts (input_values version texts (room - items_of v) (length vs)) (λ xs. v ∷ xs) (inputs_bytes version texts vs) (inputs_texts vs) vs
      (inputs_spelled (room - items_of v) vs h.1 s.1 (omega arith) (omega arith)))
