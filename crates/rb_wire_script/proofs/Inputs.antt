-- Reading the values of inputs a step at a time, and the numbers of those that are lists.
use Rattle.std.proofs.Common.{◌≡◌, ℕ, zero, suc, ◌+◌, ◌-◌, ◌<◌, ◌≤◌, List, [], ◌∷◌, ◌++◌, Ok, Err, refl, ap, sym, ◌∙◌, arith, append_assoc, append-nil}
use Rattle.std.proofs.lemmas.Grind.{common_steps}
use Rattle.rb_trees.specs.declared.values.Value.{Value}
use Rattle.rb_trees.specs.declared.values.Value.TheViews.{the_lemmas}
use Rattle.rb_trees.specs.declared.versions.Version.{Version}
use Rattle.rb_meaning_bytes.specs.formats.Formats as plain
use Rattle.rb_meaning_bytes.specs.formats.Formats.{Done}
use Rattle.rb_meaning_bytes.specs.formats.Items.{items_of}
use Rattle.rb_meaning_bytes.specs.formats.Reading.{Fault, Read, on, read}
use Rattle.rb_meaning_bytes.specs.formats.Scripts.{input_value, input_values}
use Rattle.rb_meaning_bytes.specs.formats.Staged.{Used}
use Rattle.rb_meaning_bytes.proofs.formats.Exact.{bound}
use Rattle.rb_meaning_bytes.proofs.formats.Steps.{more_left}
use Rattle.rb_wire_script.proofs.Stages.{used_so, with_front}

abbrev Values : Type 0
Values = Read (Used (List Value))

abbrev joined : Value → Values → Values
joined v r = on r (λ vs rest. Ok (used_so (v ∷ vs.0) vs.1, rest))

regroup : (front : List Value) (v : Value) (r : Values) → with_front front (joined v r) ≡ with_front (front ++ v ∷ []) r
regroup front v (Ok y) = ap (λ vs. Ok (used_so vs y.0.1, y.1)) (sym (append_assoc front (v ∷ []) y.0.0))
regroup front v (Err e) = refl

module _ (version : Version) (texts : List (List ℕ)) where
  -- what is read behind a value
  abbrev behind : (room n : ℕ) → Used Value → List ℕ → Values
  behind room n v rest = joined v.0 (read (input_values version texts (room - items_of v.0) n v.1) rest)

  one_more : (room n used : ℕ) (bytes : List ℕ) → read (input_values version texts room (suc n) used) bytes ≡ on (read (input_value version texts room used) bytes) (behind room n)
  unfolding input_values read
  one_more room n used bytes =
      bound (input_value version texts room used) (λ v. plain.◌>>=◌ (input_values version texts (room - items_of v.0) n v.1) (λ vs. Done (used_so (v.0 ∷ vs.0) vs.1))) bytes
      ∙ go (read (input_value version texts room used) bytes)
    where
      go : (r : Read (Used Value)) → on r (λ v rest. read (plain.◌>>=◌ (input_values version texts (room - items_of v.0) n v.1) (λ vs. Done (used_so (v.0 ∷ vs.0) vs.1))) rest) ≡ on r (behind room n)
      go (Ok y) = bound (input_values version texts (room - items_of y.0.0) n y.0.1) (λ vs. Done (used_so (y.0.0 ∷ vs.0) vs.1)) y.1
      go (Err e) = refl

  pub goes_on : (front : List Value) (room count i used : ℕ) (bytes : List ℕ) (v : Value) (then : ℕ) (after : List ℕ) (total : Values)
      → i < count → read (input_value version texts room used) bytes ≡ Ok (used_so v then, after)
      → with_front front (read (input_values version texts room (count - i) used) bytes) ≡ total
      → with_front (front ++ v ∷ []) (read (input_values version texts (room - items_of v) (count - (i + 1)) then) after) ≡ total
  goes_on front room count i used bytes v then after total lt h so_far =
      let one : read (input_values version texts room (count - i) used) bytes ≡ behind room (count - (i + 1)) (used_so v then) after =
      ap (λ m. read (input_values version texts room m used) bytes) (more_left count i lt) ∙ one_more room (count - (i + 1)) used bytes
      ∙ ap (λ r. on r (behind room (count - (i + 1)))) h in
      sym (ap (with_front front) one ∙ regroup front v (read (input_values version texts (room - items_of v) (count - (i + 1)) then) after)) ∙ so_far

  pub ends : (front : List Value) (room count i used : ℕ) (bytes : List ℕ) (e : Fault) (total : Values)
      → i < count → read (input_value version texts room used) bytes ≡ Err e
      → with_front front (read (input_values version texts room (count - i) used) bytes) ≡ total → total ≡ Err e
  ends front room count i used bytes e total lt h so_far =
      let one : read (input_values version texts room (count - i) used) bytes ≡ Err e =
      ap (λ m. read (input_values version texts room m used) bytes) (more_left count i lt) ∙ one_more room (count - (i + 1)) used bytes
      ∙ ap (λ r. on r (behind room (count - (i + 1)))) h in
      sym so_far ∙ ap (with_front front) one

  pub is_done : (front : List Value) (room count i used : ℕ) (bytes : List ℕ) (total : Values)
      → count ≤ i → with_front front (read (input_values version texts room (count - i) used) bytes) ≡ total → total ≡ Ok (used_so front used, bytes)
  unfolding input_values read
  is_done front room count i used bytes total le so_far =
      let k : count - i ≡ 0 = omega arith in
      sym so_far ∙ ap (λ m. with_front front (read (input_values version texts room m used) bytes)) k ∙ ap (λ vs. Ok (used_so vs used, bytes)) (append-nil front)

pub ruleset inputs = (goes_on, ends, is_done)

pub ruleset numbers = (the_lemmas, append_assoc, append-nil, common_steps)
