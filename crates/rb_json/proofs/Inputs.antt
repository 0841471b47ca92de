-- The values of inputs, one after the other: which are lists, and what each is.
use Rattle.std.proofs.Common.{◌≡◌, ℕ, zero, suc, ◌+◌, ◌<◌, ◌≤◌, Bool, true, false, ◌||◌, List, [], ◌∷◌, ◌++◌, length, get_or, Some, slice_get, refl, ap, sym, ◌∙◌, subst, arith, inl, inr}
use Rattle.std.proofs.lemmas.Bool.{cases_eq, eq-eqb, ne_eqb, true≢false}
use Rattle.rb_trees.specs.declared.values.Value.{Value, out-Value}
use Rattle.rb_trees.specs.declared.values.Value.TheOpen.{Value-F}
use Rattle.rb_trees.specs.Validity.{has}
use Rattle.rb_trees.specs.mirror.Scripts.{Script}
use Rattle.rb_meaning_bytes.specs.formats.Items.{count_items, most_items, form_numbers, list_numbers}
use Rattle.rb_meaning_bytes.specs.formats.FormedScripts.{primitive_form, ArePrimitive, AreListNumbers, input_form, AreInputs}

-- a value of an input: a list of primitive values, or primitive
abbrev pub fine_form : Value-F Value → Type 0
fine_form (Value-F.List items) = ArePrimitive items
fine_form v = primitive_form v

abbrev pub AreFine : List Value → Type 0
AreFine [] = Unit {0}
AreFine (v ∷ vs) = fine_form (out-Value v) × AreFine vs

abbrev is_list : Value-F Value → Bool
is_list (Value-F.List items) = true
is_list v = false

told_input : (x : Value-F Value) → fine_form x → input_form (is_list x) x
told_input (Value-F.Int z) h = h
told_input (Value-F.Bool b) h = h
told_input (Value-F.Text bytes) h = h
told_input Value-F.Unit h = absurd h
told_input (Value-F.List vs) h = h
told_input (Value-F.Ref n) h = absurd h
told_input (Value-F.Remote n) h = absurd h
told_input (Value-F.Rows vs) h = absurd h

input_told : (b : Bool) (x : Value-F Value) → input_form b x → (b ≡ is_list x) × fine_form x
input_told true (Value-F.List vs) h = (refl, h)
input_told true (Value-F.Int z) h = absurd h
input_told true (Value-F.Bool b) h = absurd h
input_told true (Value-F.Text bytes) h = absurd h
input_told true Value-F.Unit h = absurd h
input_told true (Value-F.Ref n) h = absurd h
input_told true (Value-F.Remote n) h = absurd h
input_told true (Value-F.Rows vs) h = absurd h
input_told false (Value-F.Int z) h = (refl, h)
input_told false (Value-F.Bool b) h = (refl, h)
input_told false (Value-F.Text bytes) h = (refl, h)
input_told false Value-F.Unit h = absurd h
input_told false (Value-F.List vs) h = absurd h
input_told false (Value-F.Ref n) h = absurd h
input_told false (Value-F.Remote n) h = absurd h
input_told false (Value-F.Rows vs) h = absurd h

no_number : (number : ℕ) (x : Value-F Value) → is_list x ≡ false → form_numbers number x ≡ []
no_number number (Value-F.Int z) h = refl
no_number number (Value-F.Bool b) h = refl
no_number number (Value-F.Text bytes) h = refl
no_number number Value-F.Unit h = refl
no_number number (Value-F.List vs) h = absurd (true≢false h)
no_number number (Value-F.Ref n) h = refl
no_number number (Value-F.Remote n) h = refl
no_number number (Value-F.Rows vs) h = refl

one_number : (number : ℕ) (x : Value-F Value) → is_list x ≡ true → form_numbers number x ≡ number ∷ []
one_number number (Value-F.Int z) h = absurd (true≢false (sym h))
one_number number (Value-F.Bool b) h = absurd (true≢false (sym h))
one_number number (Value-F.Text bytes) h = absurd (true≢false (sym h))
one_number number Value-F.Unit h = absurd (true≢false (sym h))
one_number number (Value-F.List vs) h = refl
one_number number (Value-F.Ref n) h = absurd (true≢false (sym h))
one_number number (Value-F.Remote n) h = absurd (true≢false (sym h))
one_number number (Value-F.Rows vs) h = absurd (true≢false (sym h))

-- a list of numbers begins with this one where the value is a list
numbers_list : (number : ℕ) (v : Value) (vs : List Value) → is_list (out-Value v) ≡ true → list_numbers number (v ∷ vs) ≡ number ∷ list_numbers (suc number) vs
numbers_list number v vs h = ap (λ l. l ++ list_numbers (suc number) vs) (one_number number (out-Value v) h)

numbers_none : (number : ℕ) (v : Value) (vs : List Value) → is_list (out-Value v) ≡ false → list_numbers number (v ∷ vs) ≡ list_numbers (suc number) vs
numbers_none number v vs h = ap (λ l. l ++ list_numbers (suc number) vs) (no_number number (out-Value v) h)

-- ---- numbers that rise from this one on, each below a bound

abbrev Rising : ℕ → List ℕ → Type 0
Rising k [] = Unit {0}
Rising k (l ∷ ls) = (k ≤ l) × Rising (suc l) ls

abbrev Below : ℕ → List ℕ → Type 0
Below n [] = Unit {0}
Below n (l ∷ ls) = (l < n) × Below n ls

from_less : (k m : ℕ) (ls : List ℕ) → k ≤ m → Rising m ls → Rising k ls
from_less k m [] h r = tt
from_less k m (l ∷ ls) h r = let first = r.0 in (omega arith, r.1)

rising_numbers : (k : ℕ) (vs : List Value) → Rising k (list_numbers k vs)
rising_numbers k [] = tt
rising_numbers k (v ∷ vs) = go (is_list (out-Value v)) refl (rising_numbers (suc k) vs)
  where
    go : (b : Bool) → is_list (out-Value v) ≡ b → Rising (suc k) (list_numbers (suc k) vs) → Rising k (list_numbers k (v ∷ vs))
    go true e r = subst (λ l. Rising k l) (sym (numbers_list k v vs e)) (omega arith, r)
    go false e r = subst (λ l. Rising k l) (sym (numbers_none k v vs e)) (from_less k (suc k) (list_numbers (suc k) vs) (omega arith) r)

below_numbers : (k n : ℕ) (vs : List Value) → k + length vs ≡ n → Below n (list_numbers k vs)
below_numbers k n [] h = tt
below_numbers k n (v ∷ vs) h = go (is_list (out-Value v)) refl (below_numbers (suc k) n vs (omega arith))
  where
    go : (b : Bool) → is_list (out-Value v) ≡ b → Below n (list_numbers (suc k) vs) → Below n (list_numbers k (v ∷ vs))
    go true e r = subst (λ l. Below n l) (sym (numbers_list k v vs e)) (omega arith, r)
    go false e r = subst (λ l. Below n l) (sym (numbers_none k v vs e)) r

at_least : (k : ℕ) (ls : List ℕ) (i : ℕ) → Rising k ls → i < length ls → k ≤ get_or ls i 0
at_least k [] i r h = absurd (omega arith)
at_least k (l ∷ ls) zero r h = r.0
at_least k (l ∷ ls) (suc i) r h = let rest = at_least (suc l) ls i r.1 (omega arith) in let first = r.0 in omega arith

in_order : (k : ℕ) (ls : List ℕ) (i j : ℕ) → Rising k ls → i < j → j < length ls → get_or ls i 0 < get_or ls j 0
in_order k [] i j r h m = absurd (omega arith)
in_order k (l ∷ ls) i zero r h m = absurd (omega arith)
in_order k (l ∷ ls) zero (suc j) r h m = at_least (suc l) ls j r.1 (omega arith)
in_order k (l ∷ ls) (suc i) (suc j) r h m = in_order (suc l) ls i j r.1 (omega arith) (omega arith)

below_at : (n : ℕ) (ls : List ℕ) (i : ℕ) → Below n ls → i < length ls → get_or ls i 0 < n
below_at n [] i b h = absurd (omega arith)
below_at n (l ∷ ls) zero b h = b.0
below_at n (l ∷ ls) (suc i) b h = below_at n ls i b.1 (omega arith)

rising_from : (k : ℕ) (ls : List ℕ) → ((i j : ℕ) → i < j → j < length ls → get_or ls i 0 < get_or ls j 0) → ((i : ℕ) → i < length ls → k ≤ get_or ls i 0) → Rising k ls
rising_from k [] h m = tt
rising_from k (l ∷ ls) h m = (
  m 0 (omega arith),
  rising_from (suc l) ls (λ i j a b. h (suc i) (suc j) (omega arith) (omega arith)) (λ i a. h 0 (suc i) (omega arith) (omega arith)),
)

below_from : (n : ℕ) (ls : List ℕ) → ((i : ℕ) → i < length ls → get_or ls i 0 < n) → Below n ls
below_from n [] h = tt
below_from n (l ∷ ls) h = (h 0 (omega arith), below_from n ls (λ i a. h (suc i) (omega arith)))

pub list_numbers_rise : (inputs : ℕ) (vs : List Value) → length vs ≡ inputs → AreListNumbers inputs (list_numbers 0 vs)
list_numbers_rise inputs vs h =
    (λ i j a b. in_order 0 (list_numbers 0 vs) i j (rising_numbers 0 vs) a b, λ i a. below_at inputs (list_numbers 0 vs) i (below_numbers 0 inputs vs (omega arith)) a)

-- ---- which numbers are among them

not_before : (n k : ℕ) (ls : List ℕ) → n < k → Rising k ls → has n ls ≡ false
not_before n k [] h r = refl
not_before n k (l ∷ ls) h r =
    let first = r.0 in
    ap (λ b. b || has n ls) (ne_eqb n l (λ e. omega arith)) ∙ not_before n (suc l) ls (omega arith) r.1

has_number : (k : ℕ) (vs : List Value) (n : ℕ) (v : Value) → slice_get vs n ≡ Some v → has (k + n) (list_numbers k vs) ≡ is_list (out-Value v)
has_number k [] n v e = absurd cc
has_number k (w ∷ vs) zero v e = subst (λ x. has (k + 0) (list_numbers k (w ∷ vs)) ≡ is_list (out-Value x)) same (go (is_list (out-Value w)) refl)
  where
    same : w ≡ v
    same = cc

    plus : k + 0 ≡ k
    plus = omega arith

    go : (b : Bool) → is_list (out-Value w) ≡ b → has (k + 0) (list_numbers k (w ∷ vs)) ≡ is_list (out-Value w)
    go true i = ap (λ l. has (k + 0) l) (numbers_list k w vs i) ∙ ap (λ b. b || has (k + 0) (list_numbers (suc k) vs)) (eq-eqb (k + 0) k plus) ∙ sym i
    go false i = ap (λ l. has (k + 0) l) (numbers_none k w vs i) ∙ not_before (k + 0) (suc k) (list_numbers (suc k) vs) (omega arith) (rising_numbers (suc k) vs) ∙ sym i
has_number k (w ∷ vs) (suc n) v e = go (is_list (out-Value w)) refl (has_number (suc k) vs n v e)
  where
    plus : k + suc n ≡ suc k + n
    plus = omega arith

    go : (b : Bool) → is_list (out-Value w) ≡ b → has (suc k + n) (list_numbers (suc k) vs) ≡ is_list (out-Value v) → has (k + suc n) (list_numbers k (w ∷ vs)) ≡ is_list (out-Value v)
    go true i h = ap (λ l. has (k + suc n) l) (numbers_list k w vs i) ∙ ap (λ b. b || has (k + suc n) (list_numbers (suc k) vs)) (ne_eqb (k + suc n) k (λ x. omega arith))
        ∙ ap (λ m. has m (list_numbers (suc k) vs)) plus ∙ h
    go false i h = ap (λ l. has (k + suc n) l) (numbers_none k w vs i) ∙ ap (λ m. has m (list_numbers (suc k) vs)) plus ∙ h

-- each value, found by its number, is a list where the number is among these
abbrev Tells : ℕ → List ℕ → List Value → Type 0
Tells k ls vs = (n : ℕ) (v : Value) → slice_get vs n ≡ Some v → has (k + n) ls ≡ is_list (out-Value v)

same_numbers : (k : ℕ) (ls : List ℕ) (vs : List Value) → Rising k ls → Below (k + length vs) ls → Tells k ls vs → ls ≡ list_numbers k vs
same_numbers k [] [] r b t = refl
same_numbers k (l ∷ ls) [] r b t = let low = r.0 in let high = b.0 in absurd (omega arith)
same_numbers k [] (v ∷ vs) r b t =
    same_numbers (suc k) [] vs tt tt (λ n w e. t (suc n) w e) ∙ sym (numbers_none k v vs (sym (t 0 v refl)))
same_numbers k (l ∷ ls) (v ∷ vs) r b t =
    elim (cases_eq k l) [
      | inl e ↦
          let plus : k + 0 ≡ l = omega (arith, e) in
          let here : is_list (out-Value v) ≡ true = sym (t 0 v refl) ∙ ap (λ b. b || has (k + 0) ls) (eq-eqb (k + 0) l plus) in
          let rest : Tells (suc k) ls vs = λ n w i.
          let shift : suc k + n ≡ k + suc n = omega arith in
          let other : (k + suc n ≡ l → ⊥) = λ x. omega (arith, x, e) in
          ap (λ m. has m ls) shift ∙ sym (ap (λ b. b || has (k + suc n) ls) (ne_eqb (k + suc n) l other)) ∙ t (suc n) w i in
          let up : Rising (suc k) ls = subst (λ m. Rising (suc m) ls) (sym e) r.1 in
          let down : Below (suc k + length vs) ls = subst (λ m. Below m ls) (omega arith) b.1 in
          ap (λ m. m ∷ ls) (sym e) ∙ ap (λ m. k ∷ m) (same_numbers (suc k) ls vs up down rest) ∙ sym (numbers_list k v vs here)
      | inr n ↦
          let low = r.0 in
          let above : suc k ≤ l = omega (arith, n) in
          let here : is_list (out-Value v) ≡ false = sym (t 0 v refl) ∙ not_before (k + 0) (suc k) (l ∷ ls) (omega arith) (above, r.1) in
          let rest : Tells (suc k) (l ∷ ls) vs = λ n w i. let shift : suc k + n ≡ k + suc n = omega arith in ap (λ m. has m (l ∷ ls)) shift ∙ t (suc n) w i in
          let down : Below (suc k + length vs) (l ∷ ls) = subst (λ m. Below m (l ∷ ls)) (omega arith) b in
          same_numbers (suc k) (l ∷ ls) vs (above, r.1) down rest ∙ sym (numbers_none k v vs here)
    ]

-- ---- values of inputs

fine_at : (vs : List Value) (n : ℕ) (v : Value) → slice_get vs n ≡ Some v → AreFine vs → fine_form (out-Value v)
fine_at [] n v e h = absurd cc
fine_at (w ∷ vs) zero v e h = let same : w ≡ v = cc in subst (λ x. fine_form (out-Value x)) same h.0
fine_at (w ∷ vs) (suc n) v e h = fine_at vs n v e h.1

all_fine : (vs : List Value) → ((n : ℕ) (v : Value) → slice_get vs n ≡ Some v → fine_form (out-Value v)) → AreFine vs
all_fine [] h = tt
all_fine (v ∷ vs) h = (h 0 v refl, all_fine vs (λ n w e. h (suc n) w e))

-- Values that are fine are those of a script whose lists are among them.
pub fine_inputs : (s : Script) (vs : List Value) → s.lists ≡ list_numbers 0 vs → length vs ≡ s.inputs → AreFine vs → count_items vs ≤ most_items → AreInputs s vs
fine_inputs s vs lists count h items = record {
  count = count;
  each = λ n v e.
      let plus : 0 + n ≡ n = omega arith in
      let told : has n s.lists ≡ is_list (out-Value v) = ap (λ l. has n l) lists ∙ ap (λ m. has m (list_numbers 0 vs)) (sym plus) ∙ has_number 0 vs n v e in
      subst (λ b. input_form b (out-Value v)) (sym told) (told_input (out-Value v) (fine_at vs n v e h));
  items = items;
}

pub inputs_fine : (s : Script) (vs : List Value) → AreInputs s vs → AreFine vs
inputs_fine s vs h = all_fine vs (λ n v e. (input_told (has n s.lists) (out-Value v) (h.each n v e)).1)

-- The lists of a script are those among the values of its inputs.
pub inputs_lists : (s : Script) (vs : List Value) → AreListNumbers s.inputs s.lists → AreInputs s vs → s.lists ≡ list_numbers 0 vs
inputs_lists s vs l h =
    let count = h.count in
    let bound : s.inputs ≡ 0 + length vs = omega (arith, count) in
    let low : (i : ℕ) → i < length s.lists → 0 ≤ get_or s.lists i 0 = λ i a. omega arith in
    same_numbers 0 s.lists vs (rising_from 0 s.lists l.0 low) (subst (λ n. Below n s.lists) bound (below_from s.inputs s.lists l.1))
    (λ n v e.
    let plus : 0 + n ≡ n = omega arith in
    ap (λ m. has m s.lists) plus ∙ (input_told (has n s.lists) (out-Value v) (h.each n v e)).0)
