-- What reading the texts of a pool is, by their places.
use Rattle.std.proofs.Common.{◌≡◌, ◌<◌, ℕ, zero, suc, Bool, true, false, cond, List, [], ◌∷◌, length, slice_get, Option, None, Some, Ok, Err, refl, arith}
use Rattle.std.specs.Prelude.{nat_lt, nat_le, ◌&&◌}
use Rattle.std.proofs.lemmas.Bool.Decides.{nat_tests}
use Rattle.std.proofs.lemmas.Grind.{common_steps}
use Rattle.rb_trees.specs.declared.versions.Version.TheVariants.{One, Two}
use Rattle.rb_meaning_bytes.specs.formats.Fields.{Test, Name, Text, Short, bad_pool}
use Rattle.rb_meaning_bytes.specs.formats.Pools.{any_number, value_test, name_test, place_test, text_at, used_after}
use Rattle.rb_meaning_bytes.specs.formats.Shorts.{read_groups}
use Rattle.rb_meaning_bytes.specs.formats.Staged.{Used}
use Rattle.rb_meaning_bytes.specs.formats.Reading.{Read, read, look, on, of_groups, unrefused}
use Rattle.rb_meaning_bytes.specs.formats.Scripts.{pooled, name, text}

-- a number in groups that passes a test
pub short_read : (test : Test ℕ) (bytes : List ℕ) → look (Short test) bytes ≡ on (look (Short any_number) bytes) (λ n rest. unrefused (test n) bytes (Ok (n, rest)))
unfolding look
short_read test bytes = go (of_groups bytes (read_groups 16 4 bytes))
  where
    go : (r : Read ℕ) → on r (λ n rest. unrefused (test n) bytes (Ok (n, rest))) ≡ on (on r (λ n rest. Ok (n, rest))) (λ n rest. unrefused (test n) bytes (Ok (n, rest)))
    go (Ok x) = refl
    go (Err e) = refl

-- no test
abbrev pub untested : Test (List ℕ)
untested bytes = None

abbrev used_so : List ℕ → ℕ → Used (List ℕ)
used_so bytes used = (bytes, used)

-- the text at a place, and how many texts were used then
abbrev at_place : List (List ℕ) → ℕ → ℕ → List ℕ → Read (Used (List ℕ))
at_place texts used place rest = Ok (used_so (text_at texts place) (used_after used place), rest)

pub pooled_read : (texts : List (List ℕ)) (test : Test (List ℕ)) (used : ℕ) (bytes : List ℕ)
    → read (pooled texts test used) bytes ≡ on (read (pooled texts untested used) bytes) (λ t rest. unrefused (test t.0) bytes (Ok (t, rest)))
unfolding read look
pooled_read texts test used bytes = go (of_groups bytes (read_groups 16 4 bytes))
  where
    passed : (r : Option ℕ) (place : ℕ) (rest : List ℕ) → on (unrefused r bytes (Ok (place, rest))) (at_place texts used) ≡ unrefused r bytes (at_place texts used place rest)
    passed None place rest = refl
    passed (Some n) place rest = refl

    held : (b : Bool) (place : ℕ) (rest : List ℕ)
        → on (unrefused (cond b (test (text_at texts place)) (Some bad_pool)) bytes (Ok (place, rest))) (at_place texts used)
        ≡ on (on (unrefused (cond b None (Some bad_pool)) bytes (Ok (place, rest))) (at_place texts used)) (λ t rest. unrefused (test t.0) bytes (Ok (t, rest)))
    held true place rest = passed (test (text_at texts place)) place rest
    held false place rest = refl

    go : (r : Read ℕ) → on (on r (λ n rest. unrefused (place_test texts used test n) bytes (Ok (n, rest)))) (at_place texts used)
        ≡ on (on (on r (λ n rest. unrefused (place_test texts used untested n) bytes (Ok (n, rest)))) (at_place texts used)) (λ t rest. unrefused (test t.0) bytes (Ok (t, rest)))
    go (Ok x) = held (nat_lt x.0 (length texts) && nat_le x.0 used) x.0 x.1
    go (Err e) = refl

-- a text that stands at a place
pub standing : (texts : List (List ℕ)) (place : ℕ) (t : List ℕ) → slice_get texts place ≡ Some t → text_at texts place ≡ t
standing [] place t h = absurd cc
standing (x ∷ xs) zero t h = cc
standing (x ∷ xs) (suc place) t h = standing xs place t h

pub inside : (texts : List (List ℕ)) (place : ℕ) (t : List ℕ) → slice_get texts place ≡ Some t → place < length texts
inside [] place t h = absurd cc
inside (x ∷ xs) zero t h = omega arith
inside (x ∷ xs) (suc place) t h = let k = inside xs place t h in omega arith

pub outside : (texts : List (List ℕ)) (place : ℕ) → slice_get texts place ≡ None → nat_lt place (length texts) ≡ false
outside [] place h = grind (arith, nat_tests)
outside (x ∷ xs) zero h = absurd cc
outside (x ∷ xs) (suc place) h = let k = outside xs place h in grind (arith, nat_tests)

pub ruleset places = (short_read, standing, inside, outside, nat_tests, common_steps)

-- ---- names and texts by the version

pub name_one : (texts : List (List ℕ)) (used : ℕ) (bytes : List ℕ) → read (name One texts used) bytes ≡ on (look Name bytes) (λ a rest. Ok (used_so a used, rest))
unfolding name read
name_one texts used bytes = refl

pub name_two : (texts : List (List ℕ)) (used : ℕ) (bytes : List ℕ)
    → read (name Two texts used) bytes ≡ on (read (pooled texts untested used) bytes) (λ t rest. unrefused (name_test t.0) bytes (Ok (t, rest)))
unfolding name
name_two texts used bytes = pooled_read texts name_test used bytes

pub text_one : (texts : List (List ℕ)) (used : ℕ) (bytes : List ℕ) → read (text One texts used) bytes ≡ on (look Text bytes) (λ a rest. Ok (used_so a used, rest))
unfolding text read
text_one texts used bytes = refl

pub text_two : (texts : List (List ℕ)) (used : ℕ) (bytes : List ℕ)
    → read (text Two texts used) bytes ≡ on (read (pooled texts untested used) bytes) (λ t rest. unrefused (value_test t.0) bytes (Ok (t, rest)))
unfolding text
text_two texts used bytes = pooled_read texts value_test used bytes

pub ruleset words = (name_one, name_two, text_one, text_two, nat_tests)
