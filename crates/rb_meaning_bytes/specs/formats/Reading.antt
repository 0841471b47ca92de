-- What reading a format from the left gives: its value and the bytes behind it, or the first violation. Laws say that this
-- is what the format spells and violates; it is a device of proofs.
use Rattle.std.specs.Prelude.{◌+◌, ℕ, List, [], ◌∷◌, length, take, drop, cond, nat_eq, nat_lt, Option, Some, None, Result, Ok, Err, true, false}
use Rattle.rb_trees.specs.Limits.{longest_text}
use Rattle.std.specs.Int.{w32, w64, from_be_bytes, cast_signed}
use Rattle.std.specs.Str.{is_utf8}
use Rattle.rb_meaning_bytes.specs.formats.Shorts.{Groups, read_groups, unfolded}
use Rattle.rb_meaning_bytes.specs.formats.Fields.{Test, Field, Tag, Byte, Number, Wide, Truth, Text, Name, Short, Zig, Brief, Check, Deeper, Of, is_name, announced, content, truncated, bad_tag, bad_text, not_canonical, too_deep, trailing}
use Rattle.rb_meaning_bytes.specs.formats.Formats.{Format, Done, Then}

-- a violation's number, and how many bytes are left at its place
abbrev pub Fault : Type 0
Fault = ℕ × ℕ

abbrev pub Read : Type 0 → Type 0
Read A = Result (A × List ℕ) Fault

abbrev pub on : {A B : Type 0} → Read A → (A → List ℕ → Read B) → Read B
on (Ok x) f = f x.0 x.1
on (Err e) f = Err e

abbrev pub is_cut : Fault
is_cut = (truncated, 0)

-- a field that takes so many bytes
abbrev pub fixed : {A : Type 0} → ℕ → (List ℕ → A) → List ℕ → Read A
fixed n value bytes = cond (nat_lt (length bytes) n) (Err is_cut) (Ok (value (take n bytes), drop n bytes))

-- the violation of what would be within too much
abbrev pub deep : List ℕ → Fault
deep [] = is_cut
deep (b ∷ rest) = (too_deep, length (b ∷ rest))

-- the number of a form in groups
abbrev pub of_groups : List ℕ → Groups → Read ℕ
of_groups bytes (Ok x) = Ok x
of_groups bytes (Err true) = Err is_cut
of_groups bytes (Err false) = Err (not_canonical, length bytes)

-- what a test of the value at the front of the bytes leaves
abbrev pub unrefused : {A : Type 0} → Option ℕ → List ℕ → Read A → Read A
unrefused None bytes read = read
unrefused (Some number) bytes read = Err (number, length bytes)

-- so many bytes, which pass a test, behind the front of the bytes
abbrev pub content_of : ℕ → Test (List ℕ) → List ℕ → ℕ → List ℕ → Read (List ℕ)
content_of most test bytes n rest = cond (nat_lt most n) (Err (bad_text, length bytes))
    (cond (nat_lt (length rest) n) (Err is_cut) (unrefused (test (take n rest)) bytes (Ok (take n rest, drop n rest))))

unfoldable pub look : (f : Field) → List ℕ → Read (Of f)
look (Tag test) [] = Err is_cut
look (Tag test) (b ∷ rest) = cond (test b) (Ok (b, rest)) (Err (bad_tag, length (b ∷ rest)))
look Byte [] = Err is_cut
look Byte (b ∷ rest) = Ok (b, rest)
look Number bytes = fixed 4 (λ front. from_be_bytes w32 front) bytes
look Wide bytes = fixed 8 (λ front. cast_signed w64 (from_be_bytes w64 front)) bytes
look Truth [] = Err is_cut
look Truth (b ∷ rest) = cond (nat_lt 1 b) (Err (not_canonical, length (b ∷ rest))) (Ok (nat_eq b 1, rest))
look Text bytes = cond (nat_lt longest_text (announced bytes)) (Err (bad_text, length bytes))
    (cond (nat_lt (length bytes) (4 + announced bytes)) (Err is_cut)
    (cond (is_utf8 (content bytes)) (Ok (content bytes, drop (4 + announced bytes) bytes)) (Err (bad_text, length bytes))))
look Name bytes = cond (nat_lt (length bytes) (4 + announced bytes)) (Err is_cut)
    (cond (is_name (content bytes)) (Ok (content bytes, drop (4 + announced bytes) bytes)) (Err (bad_text, length bytes)))
look (Short test) bytes = on (of_groups bytes (read_groups 16 4 bytes)) (λ n rest. unrefused (test n) bytes (Ok (n, rest)))
look Zig bytes = on (of_groups bytes (read_groups 2 9 bytes)) (λ n rest. Ok (unfolded n, rest))
look (Brief most test) bytes = on (of_groups bytes (read_groups 16 4 bytes)) (λ n rest. content_of most test bytes n rest)
look (Check refused) bytes = unrefused refused bytes (Ok (tt, bytes))
look Deeper bytes = Err (deep bytes)

unfoldable pub read : {A : Type 0} → Format A → List ℕ → Read A
read (Done a) bytes = Ok (a, bytes)
read (Then f next) bytes = on (look f bytes) (λ x rest. read (next x) rest)

-- a value behind which nothing is left
abbrev pub alone : {A : Type 0} → A → List ℕ → Result A Fault
alone a [] = Ok a
alone a (b ∷ rest) = Err (trailing, length (b ∷ rest))

abbrev pub on_all : {A : Type 0} → Read A → Result A Fault
on_all (Ok x) = alone x.0 x.1
on_all (Err e) = Err e

-- a payload as a whole
unfoldable pub read_all : {A : Type 0} → Format A → List ℕ → Result A Fault
read_all F bytes = on_all (read F bytes)
