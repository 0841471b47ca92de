-- The request of a batch is its script with the values of its inputs.
use Rattle.std.proofs.Common.{◌≡◌, ◌≤◌, refl, sym, ap, ◌∙◌, subst, arith, ℕ, zero, suc, ◌+◌, List, [], ◌∷◌, length, false, nat_lt}
use Rattle.std.proofs.lemmas.Bool.{ltb-false}
use Rattle.std.specs.Prelude.{Some, slice_get}
use Rattle.rb_trees.specs.Validity.{has}
use Rattle.rb_trees.specs.declared.values.Value.{Value, out-Value}
use Rattle.rb_trees.specs.mirror.Scripts.{Script}
use Rattle.rb_meaning_bytes.specs.formats.FormedScripts.{AreInputs, input_form}
use Rattle.rb_meaning_bytes.specs.formats.Items.{count_items, most_items}
use Rattle.rb_meaning_code.specs.State.{Names}
use Rattle.rb_meaning_split.specs.Client.{input_values}
use Rattle.rb_client.specs.Inputs.{exceed}
use Rattle.rb_client.specs.Requests.{AreFor}

values_count : (inputs : List (List ℕ)) (names : Names) → length (input_values inputs names) ≡ length inputs
values_count [] names = refl
values_count (name ∷ inputs) names = ap suc (values_count inputs names)

-- each value is one for its input
each_for : (number : ℕ) (lists : List ℕ) (vs : List Value) (n : ℕ) (v : Value) → AreFor number lists vs → slice_get vs n ≡ Some v → input_form (has (number + n) lists) (out-Value v)
each_for number lists [] n v h e = absurd (cc e)
each_for number lists (w ∷ vs) zero v h e =
    let same : w ≡ v = cc e in
    let here : number ≡ number + 0 = omega arith in
    subst (λ x. input_form (has (number + 0) lists) (out-Value x)) same (subst (λ m. input_form (has m lists) (out-Value w)) here h.0)
each_for number lists (w ∷ vs) (suc n) v h e =
    let there : suc number + n ≡ number + suc n = omega arith in
    subst (λ m. input_form (has m lists) (out-Value v)) there (each_for (suc number) lists vs n v h.1 e)

few_items : (n : ℕ) → nat_lt most_items n ≡ false → n ≤ most_items
few_items n h = ltb-false most_items n h

pub are_inputs : (s : Script) (values : List Value) (inputs : List (List ℕ)) (names : Names) → values ≡ input_values inputs names → s.inputs ≡ length inputs → exceed inputs names ≡ false → AreFor 0 s.lists values → AreInputs s values
are_inputs s values inputs names e count few fine = record {
  count = ap length e ∙ values_count inputs names ∙ sym count;
  each = λ n v is. let plus : 0 + n ≡ n = omega arith in subst (λ m. input_form (has m s.lists) (out-Value v)) plus (each_for 0 s.lists values n v fine is);
  items = few_items (count_items values) (ap (λ vs. nat_lt most_items (count_items vs)) e ∙ few);
}
