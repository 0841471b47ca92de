-- The number of a forest's violation is one that refusals have.
use Rattle.std.proofs.Common.{◌≡◌, ℕ, zero, suc, Bool, true, false, cond, nat_eq, List, [], ◌∷◌, refl}
use Rattle.rb_trees.specs.declared.versions.Version.{Version}
use Rattle.rb_trees.specs.declared.versions.Version.TheVariants.{One, Two}
use Rattle.rb_meaning_bytes.specs.formats.Fields.{Tag, Number, Truth, truncated, trailing}
use Rattle.rb_meaning_bytes.specs.formats.Formats.{Done, times, FirstViolation}
use Rattle.rb_meaning_bytes.specs.formats.Forests.{thrown, most_nodes, is_fault_code, fault_text, ends, end, entry_forms, entry, node, forest_message}
use Rattle.rb_meaning_bytes.specs.formats.Refusals.{is_refusal_number}
use Rattle.rb_meaning_bytes.specs.formats.ScriptPayloads.{version_of}
use Rattle.rb_meaning_bytes.specs.formats.Values.{natural, words, value}
use Rattle.rb_meaning_bytes.proofs.formats.NumberLaws.{Usual, HasNumbers, numbers_done, numbers_more, numbers_deeper, numbers_bind, numbers_choose, numbers_times, violation_number}
use Rattle.rb_meaning_bytes.proofs.formats.ValueNumbers.{natural_numbers, words_numbers, value_numbers}

module _ (P : ℕ → Type 0) (usual : Usual P) where
  fault_text_numbers : (version : Version) (code : ℕ) → HasNumbers P (fault_text version code)
  fault_text_numbers version code = go (nat_eq code thrown)
    where
      go : (b : Bool) → HasNumbers P (cond b (words version) (Done []))
      go true = words_numbers P usual version
      go false = numbers_done P usual []

  end_numbers : (version : Version) → HasNumbers P (end version)
  unfolding end
  end_numbers version = numbers_choose P usual (ends version) (
    numbers_done P usual _,
    (
      numbers_bind P usual (natural version) _ (natural_numbers P usual version) (λ step.
          numbers_bind P usual (natural version) _ (natural_numbers P usual version) (λ at.
          numbers_more P usual (Tag is_fault_code) _ tt (λ code h.
          numbers_bind P usual (fault_text version code) _ (fault_text_numbers version code) (λ text. numbers_done P usual _)))),
      tt,
    ),
  )

  entry_numbers : (version : Version) (n : ℕ) → HasNumbers P (node version n) → HasNumbers P (entry version (node version n))
  unfolding entry
  entry_numbers version n one = numbers_choose P usual (entry_forms version (node version n)) (
    numbers_bind P usual (value version) _ (value_numbers P usual version) (λ v. numbers_done P usual _),
    (
      numbers_more P usual Truth _ tt (λ taken h. numbers_bind P usual (node version n) _ one (λ m. numbers_done P usual _)),
      (
        numbers_more P usual Number _ tt (λ count h. numbers_bind P usual (times count (node version n)) _ (numbers_times P usual (node version n) one count) (λ ns. numbers_done P usual _)),
        tt,
      ),
    ),
  )

  node_numbers : (version : Version) (n : ℕ) → HasNumbers P (node version n)
  unfolding node
  node_numbers version zero = numbers_deeper P usual
  node_numbers version (suc n) =
      numbers_more P usual Number _ tt (λ count h.
      numbers_bind P usual (times count (entry version (node version n))) _ (numbers_times P usual (entry version (node version n)) (entry_numbers version n (node_numbers version n)) count) (λ es.
      numbers_bind P usual (end version) _ (end_numbers version) (λ f. numbers_done P usual _)))

  forest_numbers : HasNumbers P forest_message
  unfolding forest_message
  forest_numbers = numbers_choose P usual ((0x01, node One most_nodes) ∷ (0x02, node Two most_nodes) ∷ []) (node_numbers One most_nodes, (node_numbers Two most_nodes, tt))

-- a number that refusals of each version have
abbrev InEach : ℕ → Type 0
InEach number = (version : Version) → is_refusal_number version number ≡ true

in_each : (number : ℕ) → is_refusal_number One number ≡ true → is_refusal_number Two number ≡ true → InEach number
in_each number h k One = h
in_each number h k Two = k

usual_numbers : Usual InEach
usual_numbers = record { tag = in_each 2 refl refl; text = in_each 3 refl refl; canonical = in_each 4 refl refl; deep = in_each 5 refl refl }

pub forest_number : (payload : List ℕ) (number at : ℕ) → FirstViolation forest_message payload number at → is_refusal_number (version_of payload) number ≡ true
forest_number payload number at v =
    violation_number InEach forest_message payload number at v (forest_numbers InEach usual_numbers) (in_each trailing refl refl) (in_each truncated refl refl) (version_of payload)
