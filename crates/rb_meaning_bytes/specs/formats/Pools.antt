-- Pools of texts: the texts of a message, each once, in order of their first use. Where a text is used, its place stands.
use Rattle.std.specs.Prelude.{ℕ, suc, List, [], ◌∷◌, ◌++◌, Bool, true, false, ◌||◌, ◌&&◌, cond, length, get_or, nat_eq, nat_lt, nat_le, Option, Some, None}
use Rattle.std.specs.Str.{bytes_eq, is_utf8}
use Rattle.rb_trees.specs.Limits.{longest_text}
use Rattle.rb_meaning_bytes.specs.formats.Fields.{Test, is_name, bad_text, bad_pool, too_many_items}

-- a text is among others
abbrev pub is_among : List ℕ → List (List ℕ) → Bool
is_among text [] = false
is_among text (t ∷ texts) = bytes_eq t text || is_among text texts

-- the first place of a text
abbrev pub place_in : List (List ℕ) → List ℕ → ℕ
place_in [] text = 0
place_in (t ∷ texts) text = cond (bytes_eq t text) 0 (suc (place_in texts text))

-- the text at a place, none behind the last
abbrev pub text_at : List (List ℕ) → ℕ → List ℕ
text_at texts place = get_or texts place []

-- the texts with one more, where it is new
abbrev pub with_text : List (List ℕ) → List ℕ → List (List ℕ)
with_text texts text = cond (is_among text texts) texts (texts ++ text ∷ [])

-- the texts with those that others are the first to use
abbrev pub with_texts : List (List ℕ) → List (List ℕ) → List (List ℕ)
with_texts texts [] = texts
with_texts texts (t ∷ ts) = with_texts (with_text texts t) ts

-- ---- tests, which refuse with a number

abbrev pub refused_unless : Bool → ℕ → Option ℕ
refused_unless true number = None
refused_unless false number = Some number

abbrev pub any_number : Test ℕ
any_number n = None

abbrev pub text_test : Test (List ℕ)
text_test bytes = refused_unless (is_utf8 bytes) bad_text

-- a text of a pool, which none of the earlier equals
abbrev pub new_text_test : List (List ℕ) → Test (List ℕ)
new_text_test earlier bytes = cond (is_utf8 bytes) (cond (is_among bytes earlier) (Some bad_pool) None) (Some bad_text)

-- a text of a pool that is used as a value
abbrev pub value_test : Test (List ℕ)
value_test bytes = refused_unless (nat_le (length bytes) longest_text) bad_text

-- a text of a pool that is used as a name
abbrev pub name_test : Test (List ℕ)
name_test bytes = refused_unless (is_name bytes) bad_text

-- a place in a pool of which so many texts were used, whose text passes a test
abbrev pub place_test : List (List ℕ) → ℕ → Test (List ℕ) → Test ℕ
place_test texts used test place = cond (nat_lt place (length texts) && nat_le place used) (test (text_at texts place)) (Some bad_pool)

-- a number of items, where so many may be
abbrev pub items_test : ℕ → Test ℕ
items_test room count = refused_unless (nat_le count room) too_many_items

-- All texts of a pool were used.
abbrev pub unused : List (List ℕ) → ℕ → Option ℕ
unused texts used = refused_unless (nat_eq used (length texts)) bad_pool

-- how many texts were used, once the text at this place was
abbrev pub used_after : ℕ → ℕ → ℕ
used_after used place = cond (nat_eq place used) (suc used) used
