-- Behind a field fewer bytes are left.
use Rattle.std.proofs.Common.{◌≡◌, ◌+◌, ◌<◌, ◌≤◌, ℕ, ℤ, zero, suc, Bool, true, false, cond, nat_eq, List, [], ◌∷◌, length, take, drop, Option, None, Some, Ok, Err, refl, sym, ◌∙◌, subst, arith, ltb-false, length-drop}
use Rattle.std.specs.Prelude.{nat_lt}
use Rattle.std.specs.Int.{w32, w64, from_be_bytes, cast_signed}
use Rattle.std.specs.Str.{is_utf8}
use Rattle.rb_trees.specs.Limits.{longest_text}
use Rattle.rb_trees.specs.declared.versions.Version.{Version}
use Rattle.rb_trees.specs.declared.versions.Version.TheVariants.{One, Two}
use Rattle.rb_meaning_bytes.specs.formats.Fields.{Test, Byte, Number, Wide, Truth, Text, Short, Zig, Brief, announced, content, bad_text}
use Rattle.rb_meaning_bytes.specs.formats.Shorts.{Groups, read_groups, joined}
use Rattle.rb_meaning_bytes.specs.formats.Pools.{any_number, text_test}
use Rattle.rb_meaning_bytes.specs.formats.Reading.{Fault, Read, look, read, on, of_groups, unrefused, content_of, fixed, is_cut}
use Rattle.rb_meaning_bytes.specs.formats.Values.{natural, integer, words}
use Rattle.rb_wire_fields.proofs.Equations.{natural_one, natural_two, integer_one, integer_two, words_one, words_two}

abbrev Shortens : {A : Type 0} → List ℕ → Read A → Type 0
Shortens bytes (Ok x) = length x.1 < length bytes
Shortens bytes (Err e) = Unit {0}

abbrev ShortensGroups : List ℕ → Groups → Type 0
ShortensGroups bytes (Ok x) = length x.1 < length bytes
ShortensGroups bytes (Err e) = Unit {0}

unless : {A : Type 0} (b : Bool) (bytes : List ℕ) (e : Fault) (r : Read A) → Shortens bytes r → Shortens bytes (cond b (Err e) r)
unless true bytes e r h = tt
unless false bytes e r h = h

where_so : {A : Type 0} (b : Bool) (bytes : List ℕ) (e : Fault) (r : Read A) → Shortens bytes r → Shortens bytes (cond b r (Err e))
where_so true bytes e r h = h
where_so false bytes e r h = tt

on_read : {A B : Type 0} (bytes : List ℕ) (r : Read A) (f : A → List ℕ → Read B) → Shortens bytes r
    → ((a : A) (rest : List ℕ) → length rest < length bytes → Shortens bytes (f a rest)) → Shortens bytes (on r f)
on_read bytes (Ok x) f h k = k x.0 x.1 h
on_read bytes (Err e) f h k = tt

tested : {A : Type 0} (o : Option ℕ) (bytes : List ℕ) (r : Read A) → Shortens bytes r → Shortens bytes (unrefused o bytes r)
tested None bytes r h = h
tested (Some n) bytes r h = tt

fixed_field : {A : Type 0} (n : ℕ) (value : List ℕ → A) (bytes : List ℕ) → 0 < n → Shortens bytes (fixed n value bytes)
fixed_field {A} n value bytes some = go (nat_lt (length bytes) n) refl
  where
    go : (b : Bool) → nat_lt (length bytes) n ≡ b → Shortens {A = A} bytes (cond b (Err is_cut) (Ok (value (take n bytes), drop n bytes)))
    go true e = tt
    go false e = let l : n ≤ length bytes = ltb-false _ _ e in omega (arith, length-drop n bytes)

grouped : (last k : ℕ) (bytes : List ℕ) → ShortensGroups bytes (read_groups last k bytes)
grouped last zero [] = tt
grouped last zero (b ∷ rest) = go (nat_lt b last)
  where
    go : (v : Bool) → ShortensGroups (b ∷ rest) (cond v (Ok (b, rest)) (Err false))
    go true = omega arith
    go false = tt
grouped last (suc k) [] = tt
grouped last (suc k) (b ∷ rest) = go (nat_lt b 128) (joined b (read_groups last k rest)) (more (read_groups last k rest) (grouped last k rest))
  where
    kept : (v : Bool) (n : ℕ) (after : List ℕ) → length after < length rest → ShortensGroups (b ∷ rest) (cond v (Err false) (Ok (n, after)))
    kept true n after h = tt
    kept false n after h = omega arith

    more : (g : Groups) → ShortensGroups rest g → ShortensGroups (b ∷ rest) (joined b g)
    more (Ok x) h = kept (nat_eq x.0 0) _ x.1 h
    more (Err e) h = tt

    go : (v : Bool) (g : Groups) → ShortensGroups (b ∷ rest) g → ShortensGroups (b ∷ rest) (cond v (Ok (b, rest)) g)
    go true g h = omega arith
    go false g h = h

of_number : (bytes : List ℕ) (g : Groups) → ShortensGroups bytes g → Shortens bytes (of_groups bytes g)
of_number bytes (Ok x) h = h
of_number bytes (Err true) h = tt
of_number bytes (Err false) h = tt

held : (most : ℕ) (test : Test (List ℕ)) (bytes : List ℕ) (n : ℕ) (rest : List ℕ) → length rest < length bytes → Shortens bytes (content_of most test bytes n rest)
held most test bytes n rest h =
    let left : length (drop n rest) < length bytes = omega (arith, length-drop n rest) in
    unless (nat_lt most n) bytes _ _ (unless (nat_lt (length rest) n) bytes _ _ (tested (test (take n rest)) bytes _ left))

byte_shortens : (bytes : List ℕ) → Shortens bytes (look Byte bytes)
unfolding look
byte_shortens [] = tt
byte_shortens (b ∷ rest) = omega arith

truth_shortens : (bytes : List ℕ) → Shortens bytes (look Truth bytes)
unfolding look
truth_shortens [] = tt
truth_shortens (b ∷ rest) = unless (nat_lt 1 b) (b ∷ rest) _ _ (omega arith)

number_shortens : (bytes : List ℕ) → Shortens bytes (look Number bytes)
unfolding look
number_shortens bytes = fixed_field 4 (λ front. from_be_bytes w32 front) bytes (omega arith)

wide_shortens : (bytes : List ℕ) → Shortens bytes (look Wide bytes)
unfolding look
wide_shortens bytes = fixed_field 8 (λ front. cast_signed w64 (from_be_bytes w64 front)) bytes (omega arith)

text_shortens : (bytes : List ℕ) → Shortens bytes (look Text bytes)
unfolding look
text_shortens bytes = unless (nat_lt longest_text (announced bytes)) bytes _ _ (go (nat_lt (length bytes) (4 + announced bytes)) refl)
  where
    go : (b : Bool) → nat_lt (length bytes) (4 + announced bytes) ≡ b
        → Shortens {A = List ℕ} bytes (cond b (Err is_cut) (cond (is_utf8 (content bytes)) (Ok (content bytes, drop (4 + announced bytes) bytes)) (Err (bad_text, length bytes))))
    go true e = tt
    go false e =
        let l : 4 + announced bytes ≤ length bytes = ltb-false _ _ e in
        let left : length (drop (4 + announced bytes) bytes) < length bytes = omega (arith, length-drop (4 + announced bytes) bytes) in
        where_so (is_utf8 (content bytes)) bytes _ _ left

short_shortens : (test : Test ℕ) (bytes : List ℕ) → Shortens bytes (look (Short test) bytes)
unfolding look
short_shortens test bytes = on_read bytes _ _ (of_number bytes _ (grouped 16 4 bytes)) (λ n rest h. tested (test n) bytes (Ok (n, rest)) h)

zig_shortens : (bytes : List ℕ) → Shortens bytes (look Zig bytes)
unfolding look
zig_shortens bytes = on_read bytes _ _ (of_number bytes _ (grouped 2 9 bytes)) (λ n rest h. h)

brief_shortens : (most : ℕ) (test : Test (List ℕ)) (bytes : List ℕ) → Shortens bytes (look (Brief most test) bytes)
unfolding look
brief_shortens most test bytes = on_read bytes _ _ (of_number bytes _ (grouped 16 4 bytes)) (λ n rest h. held most test bytes n rest h)

-- ---- as a field's value and the bytes behind it are known

left : {A : Type 0} (bytes : List ℕ) (r : Read A) (x : A) (rest : List ℕ) → Shortens bytes r → r ≡ Ok (x, rest) → length rest < length bytes
left bytes r x rest h e = subst (λ q. Shortens bytes q) e h

pub byte : (bytes : List ℕ) (x : ℕ) (rest : List ℕ) → look Byte bytes ≡ Ok (x, rest) → length rest < length bytes
byte bytes x rest e = left bytes _ x rest (byte_shortens bytes) e

pub truth : (bytes : List ℕ) (x : Bool) (rest : List ℕ) → look Truth bytes ≡ Ok (x, rest) → length rest < length bytes
truth bytes x rest e = left bytes _ x rest (truth_shortens bytes) e

pub number : (bytes : List ℕ) (x : ℕ) (rest : List ℕ) → look Number bytes ≡ Ok (x, rest) → length rest < length bytes
number bytes x rest e = left bytes _ x rest (number_shortens bytes) e

pub a_natural : (version : Version) (bytes : List ℕ) (x : ℕ) (rest : List ℕ) → read (natural version) bytes ≡ Ok (x, rest) → length rest < length bytes
a_natural One bytes x rest e = left bytes _ x rest (number_shortens bytes) (sym (natural_one bytes) ∙ e)
a_natural Two bytes x rest e = left bytes _ x rest (short_shortens any_number bytes) (sym (natural_two bytes) ∙ e)

pub an_integer : (version : Version) (bytes : List ℕ) (x : ℤ) (rest : List ℕ) → read (integer version) bytes ≡ Ok (x, rest) → length rest < length bytes
an_integer One bytes x rest e = left bytes _ x rest (wide_shortens bytes) (sym (integer_one bytes) ∙ e)
an_integer Two bytes x rest e = left bytes _ x rest (zig_shortens bytes) (sym (integer_two bytes) ∙ e)

pub some_words : (version : Version) (bytes : List ℕ) (x : List ℕ) (rest : List ℕ) → read (words version) bytes ≡ Ok (x, rest) → length rest < length bytes
some_words One bytes x rest e = left bytes _ x rest (text_shortens bytes) (sym (words_one bytes) ∙ e)
some_words Two bytes x rest e = left bytes _ x rest (brief_shortens longest_text text_test bytes) (sym (words_two bytes) ∙ e)

pub brief : (most : ℕ) (test : Test (List ℕ)) (bytes : List ℕ) (x : List ℕ) (rest : List ℕ) → look (Brief most test) bytes ≡ Ok (x, rest) → length rest < length bytes
brief most test bytes x rest e = left bytes _ x rest (brief_shortens most test bytes) e

pub ruleset fields = (byte, truth, number, a_natural, an_integer, some_words, brief)
