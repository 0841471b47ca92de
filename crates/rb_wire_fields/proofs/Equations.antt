-- What reading values and lists is, a step at a time.
use Rattle.std.proofs.Common.{◌≡◌, ℕ, Bool, true, false, cond, List, [], ◌∷◌, ◌++◌, map, length, take, drop, None, Ok, Err, refl}
use Rattle.std.specs.Prelude.{nat_lt}
use Rattle.std.proofs.lemmas.List.{map-append}
use Rattle.rb_trees.specs.Limits.{longest_text}
use Rattle.rb_trees.specs.declared.versions.Version.{Version}
use Rattle.rb_trees.specs.declared.versions.Version.TheVariants.{One, Two}
use Rattle.rb_meaning_bytes.specs.formats.Fields.{Field, Of, Test, Byte, Number, Wide, Text, Short, Zig, Brief, bad_text}
use Rattle.rb_meaning_bytes.specs.formats.Formats.{the}
use Rattle.rb_meaning_bytes.specs.formats.Pools.{any_number, text_test}
use Rattle.rb_meaning_bytes.specs.formats.Shorts.{read_groups}
use Rattle.rb_meaning_bytes.specs.formats.Reading.{Read, read, look, on, of_groups, unrefused, content_of, is_cut}
use Rattle.rb_meaning_bytes.specs.formats.Values.{natural, integer, words, value, value_forms}
use Rattle.rb_meaning_bytes.proofs.formats.Exact.{bound}
use Rattle.rb_meaning_bytes.proofs.formats.Steps.{chosen, by_tag, goes_on, ends, is_done}

-- a field alone
the_read : (f : Field) (bytes : List ℕ) → read (the f) bytes ≡ look f bytes
unfolding read
the_read f bytes = go (look f bytes)
  where
    go : (r : Read (Of f)) → on r (λ x rest. Ok (x, rest)) ≡ r
    go (Ok x) = refl
    go (Err e) = refl

pub natural_one : (bytes : List ℕ) → read (natural One) bytes ≡ look Number bytes
unfolding natural
natural_one bytes = the_read Number bytes

pub natural_two : (bytes : List ℕ) → read (natural Two) bytes ≡ look (Short any_number) bytes
unfolding natural
natural_two bytes = the_read (Short any_number) bytes

pub integer_one : (bytes : List ℕ) → read (integer One) bytes ≡ look Wide bytes
unfolding integer
integer_one bytes = the_read Wide bytes

pub integer_two : (bytes : List ℕ) → read (integer Two) bytes ≡ look Zig bytes
unfolding integer
integer_two bytes = the_read Zig bytes

pub words_one : (bytes : List ℕ) → read (words One) bytes ≡ look Text bytes
unfolding words
words_one bytes = the_read Text bytes

pub words_two : (bytes : List ℕ) → read (words Two) bytes ≡ look (Brief longest_text text_test) bytes
unfolding words
words_two bytes = the_read (Brief longest_text text_test) bytes

pub ruleset leaves = (natural_one, natural_two, integer_one, integer_two, words_one, words_two)

-- ---- bytes behind a length, with a test and without

-- no test
abbrev pub untested : Test (List ℕ)
untested bytes = None

pub brief_read : (most : ℕ) (test : Test (List ℕ)) (bytes : List ℕ)
    → look (Brief most test) bytes ≡ on (look (Brief most untested) bytes) (λ t rest. unrefused (test t) bytes (Ok (t, rest)))
unfolding look
brief_read most test bytes = go (of_groups bytes (read_groups 16 4 bytes))
  where
    held : (b : Bool) (n : ℕ) (rest : List ℕ) → cond b (Err is_cut) (unrefused (test (take n rest)) bytes (Ok (take n rest, drop n rest)))
        ≡ on (cond b (Err is_cut) (Ok (take n rest, drop n rest))) (λ t rest. unrefused (test t) bytes (Ok (t, rest)))
    held true n rest = refl
    held false n rest = refl

    limited : (b : Bool) (n : ℕ) (rest : List ℕ) → cond b (Err (bad_text, length bytes)) (cond (nat_lt (length rest) n) (Err is_cut) (unrefused (test (take n rest)) bytes (Ok (take n rest, drop n rest))))
        ≡ on (cond b (Err (bad_text, length bytes)) (cond (nat_lt (length rest) n) (Err is_cut) (Ok (take n rest, drop n rest)))) (λ t rest. unrefused (test t) bytes (Ok (t, rest)))
    limited true n rest = refl
    limited false n rest = held (nat_lt (length rest) n) n rest

    go : (r : Read ℕ) → on r (λ n rest. content_of most test bytes n rest) ≡ on (on r (λ n rest. content_of most untested bytes n rest)) (λ t rest. unrefused (test t) bytes (Ok (t, rest)))
    go (Ok x) = limited (nat_lt most x.0) x.0 x.1
    go (Err e) = refl

pub ruleset texts = (brief_read)

-- ---- values

pub value_read : (version : Version) (bytes : List ℕ) → read (value version) bytes ≡ on (look Byte bytes) (λ b rest. by_tag (value_forms version) b rest)
unfolding value
value_read version bytes = chosen (value_forms version) bytes

pub ruleset values = (value_read, bound)

-- one more item, in the mirror
pub map_more : {A B : Type 0} (f : A → B) (xs : List A) (x : A) → map f (xs ++ x ∷ []) ≡ map f xs ++ f x ∷ []
map_more f xs x = map-append f xs (x ∷ [])

pub ruleset lists = (goes_on, ends, is_done, map_more)
