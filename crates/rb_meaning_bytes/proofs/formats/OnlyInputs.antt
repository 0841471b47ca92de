-- What the values of inputs are spelled by is their bytes, each is fine, and lists have no more items than there is room.
use Rattle.std.proofs.Common.{◌≡◌, ℕ, zero, suc, ◌-◌, ◌<◌, ◌≤◌, ◌^◌, nat_le, List, [], ◌∷◌, ◌++◌, length, refl, ap, sym, ◌∙◌, subst, arith}
use Rattle.std.proofs.lemmas.Bool.{leb-true}
use Rattle.rb_trees.specs.declared.values.Value.{Value, out-Value}
use Rattle.rb_trees.specs.declared.values.Value.TheOpen.{Value-F}
use Rattle.rb_trees.specs.declared.values.Value.TheVariants as a_value
use Rattle.rb_trees.specs.declared.values.Value.TheViews.{out-roll-Value}
use Rattle.rb_trees.specs.declared.versions.Version.{Version}
use Rattle.rb_trees.specs.declared.versions.Version.TheVariants.{One, Two}
use Rattle.rb_meaning_bytes.specs.formats.Fields.{Short, too_many_items}
use Rattle.rb_meaning_bytes.specs.formats.Formats.{the}
use Rattle.rb_meaning_bytes.specs.formats.Staged.{times}
use Rattle.rb_meaning_bytes.specs.formats.Items.{form_items, items_of, count_items}
use Rattle.rb_meaning_bytes.specs.formats.Pools.{items_test}
use Rattle.rb_meaning_bytes.specs.formats.Scripts.{value, value_forms, list_forms, input_value, input_values}
use Rattle.rb_meaning_bytes.specs.formats.ScriptBytes.{natural_bytes, literal_form, literal_bytes, literals_bytes, form_texts, literal_texts, literals_texts, input_form, input_bytes, inputs_bytes, input_form_texts, inputs_texts}
use Rattle.rb_meaning_bytes.specs.formats.FormedScripts.{primitive_form, IsPrimitive, ArePrimitive}
use Rattle.rb_meaning_bytes.proofs.formats.Only.{Only, only_done, only_more}
use Rattle.rb_meaning_bytes.proofs.formats.Values.{unless_met}
use Rattle.rb_meaning_bytes.proofs.formats.Inputs.{fine_form, AreFine}
use Rattle.rb_meaning_bytes.proofs.formats.StagedOnly.{StagedOnly, EachStaged, staged_give, staged_bind, staged_same, staged_choose, staged_times, each_as, each_more}
use Rattle.rb_meaning_bytes.proofs.formats.PooledTexts.{IsPool, literal_each, literal_only}
use Rattle.rb_meaning_bytes.proofs.formats.PoolLaws.{Words}

-- Version 1 has no lists.
abbrev pub FormSuits : Version → Value-F Value → Type 0
FormSuits One x = primitive_form x
FormSuits Two x = Unit {0}

abbrev pub InputsSuit : Version → List Value → Type 0
InputsSuit One vs = ArePrimitive vs
InputsSuit Two vs = Unit {0}

suits : (version : Version) (x : Value-F Value) → primitive_form x → FormSuits version x
suits One x h = h
suits Two x h = tt

suit_none : (version : Version) → InputsSuit version []
suit_none One = tt
suit_none Two = tt

suit_more : (version : Version) (v : Value) (vs : List Value) → FormSuits version (out-Value v) → InputsSuit version vs → InputsSuit version (v ∷ vs)
suit_more One v vs h k = (h, k)
suit_more Two v vs h k = tt

-- a value of an input where there is room for so many items
abbrev FineInput : Version → ℕ → Value → Type 0
FineInput version room v = fine_form (out-Value v) × (items_of v ≤ room) × FormSuits version (out-Value v)

-- so many values of inputs, where there is room for so many items
abbrev pub FineInputs : Version → ℕ → ℕ → List Value → Type 0
FineInputs version room n vs = (length vs ≡ n) × AreFine vs × (count_items vs ≤ room) × InputsSuit version vs

out_list : (items : List Value) → out-Value (a_value.List items) ≡ Value-F.List items
out_list items = ap out-Value (sym (a_value.rolls-List items)) ∙ out-roll-Value (Value-F.List items)

-- A primitive value is spelled as an input as it is in a list.
as_input : (version : Version) (texts : Words) (x : Value-F Value) → primitive_form x
    → (literal_form version texts x ≡ input_form version texts x) × (form_texts x ≡ input_form_texts x) × fine_form x × (form_items x ≡ 0)
as_input version texts (Value-F.Int z) h = (refl, refl, h, refl)
as_input version texts (Value-F.Bool b) h = (refl, refl, h, refl)
as_input version texts (Value-F.Text bytes) h = (refl, refl, h, refl)
as_input version texts Value-F.Unit h = absurd h
as_input version texts (Value-F.List vs) h = absurd h
as_input version texts (Value-F.Ref n) h = absurd h
as_input version texts (Value-F.Remote n) h = absurd h
as_input version texts (Value-F.Rows vs) h = absurd h

abbrev short_bytes : ℕ → List ℕ
short_bytes n = natural_bytes Two n

count_only : (room : ℕ) → Only (the (Short (items_test room))) [] short_bytes (λ n. (n < 2 ^ 32) × (n ≤ room))
count_only room = only_more short_bytes (λ n. (n < 2 ^ 32) × (n ≤ room)) (Short (items_test room)) _ []
    (λ n h. only_done _ _ n _ refl (h.0, leb-true n room (unless_met (nat_le n room) too_many_items h.1)))

abbrev items_formed : ℕ → List Value → Type 0
items_formed count items = (length items ≡ count) × ArePrimitive items

list_each : (version : Version) (texts : Words) → IsPool version texts → (room : ℕ)
    → EachStaged version texts (λ v. input_bytes version texts v) (λ v. input_form_texts (out-Value v)) (FineInput version room) (list_forms version texts version room)
list_each One texts pool room = tt
list_each Two texts pool room =
    let p : Value → List ℕ = λ v. input_bytes Two texts v in
    let ws : Value → Words = λ v. input_form_texts (out-Value v) in
    let ok : Value → Type 0 = λ v. FineInput Two room v in
    let q : Value → List ℕ = λ v. literal_bytes Two texts v in
    let qs : Value → Words = λ v. literal_texts v in
    let all : List Value → List ℕ = λ vs. literals_bytes Two texts vs in (
      staged_same Two texts p ws ok (the (Short (items_test room))) _ _ _ short_bytes (λ n. (n < 2 ^ 32) × (n ≤ room)) (count_only room) (λ count c.
          staged_bind Two texts p ws ok (times count (value Two texts)) _ _ _ all (λ vs. literals_texts vs) (items_formed count)
          (staged_times Two texts (value Two texts) q qs IsPrimitive all (λ vs. literals_texts vs) items_formed refl refl (λ x xs. refl) (λ x xs. refl) (refl, tt)
          (λ n x xs f l. (ap suc l.0, (f, l.1))) (literal_only Two texts pool) count)
          (λ items l. staged_give Two texts p ws ok (a_value.List items) _ _
          (ap (λ m. (0x04 ∷ short_bytes m) ++ all items) (sym l.0) ∙ sym (ap (input_form Two texts) (out_list items)))
          (sym (ap input_form_texts (out_list items)))
          (subst fine_form (sym (out_list items)) l.1, subst (λ m. m ≤ room) (sym l.0 ∙ sym (ap form_items (out_list items))) c.1, tt))),
      tt,
    )

module _ (version : Version) (texts : Words) (pool : IsPool version texts) where
  abbrev bytes_of : Value → List ℕ
  bytes_of v = input_bytes version texts v

  abbrev texts_of : Value → Words
  texts_of v = input_form_texts (out-Value v)

  -- a primitive value is one of an input
  primitive_each : (room : ℕ) → EachStaged version texts bytes_of texts_of (FineInput version room) (value_forms version texts)
  primitive_each room = each_as version texts (λ v. literal_bytes version texts v) bytes_of (λ v. literal_texts v) texts_of IsPrimitive (FineInput version room)
      (λ v h.
      let a = as_input version texts (out-Value v) h in
      let none = a.3 in
      (a.0, a.1, (a.2, omega (arith, none), suits version (out-Value v) h)))
      (value_forms version texts) (literal_each version texts pool)

  input_only : (room : ℕ) → StagedOnly version texts (input_value version texts room) [] [] bytes_of texts_of (FineInput version room)
  unfolding input_value
  input_only room = staged_choose version texts bytes_of texts_of (FineInput version room) (value_forms version texts ++ list_forms version texts version room)
      (each_more version texts bytes_of texts_of (FineInput version room) (value_forms version texts) (list_forms version texts version room) (primitive_each room) (list_each version texts pool room))

  pub inputs_only : (n room : ℕ) → StagedOnly version texts (input_values version texts room n) [] [] (λ vs. inputs_bytes version texts vs) (λ vs. inputs_texts vs) (FineInputs version room n)
  unfolding input_values
  inputs_only zero room = staged_give version texts (λ vs. inputs_bytes version texts vs) (λ vs. inputs_texts vs) (FineInputs version room 0) [] [] [] refl refl (refl, tt, omega arith, suit_none version)
  inputs_only (suc n) room =
      let p : List Value → List ℕ = λ vs. inputs_bytes version texts vs in
      let ws : List Value → Words = λ vs. inputs_texts vs in
      let ok : List Value → Type 0 = λ vs. FineInputs version room (suc n) vs in
      staged_bind version texts p ws ok (input_value version texts room) _ _ _ bytes_of texts_of (FineInput version room) (input_only room) (λ v f.
      staged_bind version texts p ws ok (input_values version texts (room - items_of v) n) _ _ _ p ws (FineInputs version (room - items_of v) n) (inputs_only n (room - items_of v)) (λ vs l.
      let fits = f.1 in
      let rest = l.2 in
      staged_give version texts p ws ok (v ∷ vs) _ _ refl refl (ap suc l.0, (f.0, l.1), omega arith, suit_more version v vs f.2 l.3)))
