-- Names with the values in order: what stands at the first place of a name.
use Rattle.std.proofs.Common.{◌≡◌, ℕ, ◌+◌, suc, List, [], ◌∷◌, length, slice_get, slice_set, Bool, true, false, not, cond, nat_lt, Option, None, Some, position, refl, sym, ap, ◌∙◌, arith}
use Rattle.std.specs.List.{zip, position_or_len}
use Rattle.std.specs.Option.{option_map}
use Rattle.std.specs.Str.{bytes_eq}
use Rattle.std.proofs.lemmas.Bool.Decides.{nat_tests}
use Rattle.rb_trees.specs.declared.values.Value.{Value}
use Rattle.rb_trees.specs.Named.{first_named, lookup, replaced}

-- the first place by the first name
later : (n len : ℕ) → (b : Bool) → nat_lt n len ≡ b → cond (nat_lt (1 + n) (suc len)) (Some (1 + n)) None ≡ option_map suc (cond b (Some n) None)
later n len true e = let more : nat_lt (1 + n) (suc len) ≡ true = grind (arith, nat_tests) in let same : 1 + n ≡ suc n = omega arith in ap (λ c. cond c (Some (1 + n)) None) more ∙ ap Some same
later n len false e = let more : nat_lt (1 + n) (suc len) ≡ false = grind (arith, nat_tests) in ap (λ c. cond c (Some (1 + n)) None) more

place_step : (b : Bool) (n len : ℕ) → cond (nat_lt (cond (not b) (1 + n) 0) (suc len)) (Some (cond (not b) (1 + n) 0)) None ≡ cond b (Some 0) (option_map suc (cond (nat_lt n len) (Some n) None))
place_step true n len = let more : nat_lt 0 (suc len) ≡ true = grind (arith, nat_tests) in ap (λ c. cond c (Some 0) None) more
place_step false n len = later n len (nat_lt n len) refl

place_next : {A : Type 0} (test : A → Bool) (x : A) (xs : List A) → position test (x ∷ xs) ≡ cond (test x) (Some 0) (option_map suc (position test xs))
place_next test x xs = place_step (test x) (position_or_len test xs) (length xs)

-- the value at a place, if there is one
abbrev pub value_at : List Value → Option ℕ → Option Value
value_at vs None = None
value_at vs (Some place) = slice_get vs place

value_step : (b : Bool) (o : Option ℕ) (n : List ℕ) (v : Value) (vs : List Value) (r : Option (List ℕ × Value)) → option_map (λ f. f.1) r ≡ value_at vs o
    → option_map (λ f. f.1) (cond b (Some (n, v)) r) ≡ value_at (v ∷ vs) (cond b (Some 0) (option_map suc o))
value_step true o n v vs r e = refl
value_step false None n v vs r e = e
value_step false (Some p) n v vs r e = e

no_value : (o : Option ℕ) → None ≡ value_at [] o
no_value None = refl
no_value (Some p) = refl

-- the value of a name stands at the name's first place
pub lookup_zipped : (ns : List (List ℕ)) (vs : List Value) (name : List ℕ) → lookup (zip ns vs) name ≡ value_at vs (position (λ n. bytes_eq n name) ns)
lookup_zipped [] vs name = refl
lookup_zipped (n ∷ ns) [] name = no_value (position (λ n. bytes_eq n name) (n ∷ ns))
lookup_zipped (n ∷ ns) (v ∷ vs) name =
    value_step (bytes_eq n name) (position (λ n. bytes_eq n name) ns) n v vs (first_named (λ f. f.0) (zip ns vs) name) (lookup_zipped ns vs name)
    ∙ ap (value_at (v ∷ vs)) (sym (place_next (λ n. bytes_eq n name) n ns))

-- the values with another at a place
abbrev pub set_at : List Value → Value → Option ℕ → List Value
set_at vs value None = vs
set_at vs value (Some place) = slice_set vs place value

set_step : (b : Bool) (o : Option ℕ) (n : List ℕ) (ns : List (List ℕ)) (v : Value) (vs : List Value) (value : Value) (r : List (List ℕ × Value)) → r ≡ zip ns (set_at vs value o)
    → cond b ((n, value) ∷ zip ns vs) ((n, v) ∷ r) ≡ zip (n ∷ ns) (set_at (v ∷ vs) value (cond b (Some 0) (option_map suc o)))
set_step true o n ns v vs value r e = refl
set_step false None n ns v vs value r e = ap (λ r. (n, v) ∷ r) e
set_step false (Some p) n ns v vs value r e = ap (λ r. (n, v) ∷ r) e

none_set : (n : List ℕ) (ns : List (List ℕ)) (value : Value) (o : Option ℕ) → [] ≡ zip (n ∷ ns) (set_at [] value o)
none_set n ns value None = refl
none_set n ns value (Some p) = refl

-- so it does where the first of the name has another value
pub replaced_zipped : (ns : List (List ℕ)) (vs : List Value) (name : List ℕ) (value : Value)
    → replaced (zip ns vs) name value ≡ zip ns (set_at vs value (position (λ n. bytes_eq n name) ns))
replaced_zipped [] vs name value = refl
replaced_zipped (n ∷ ns) [] name value = none_set n ns value (position (λ n. bytes_eq n name) (n ∷ ns))
replaced_zipped (n ∷ ns) (v ∷ vs) name value =
    set_step (bytes_eq n name) (position (λ n. bytes_eq n name) ns) n ns v vs value (replaced (zip ns vs) name value) (replaced_zipped ns vs name value)
    ∙ ap (λ o. zip (n ∷ ns) (set_at (v ∷ vs) value o)) (sym (place_next (λ n. bytes_eq n name) n ns))
