-- Characters that begin before places.
use Rattle.std.proofs.Common.{◌≡◌, ℕ, ◌+◌, ◌-◌, ◌*◌, ◌≤◌, List, [], ◌∷◌, ◌++◌, not, cond, suc, zero, Some, slice_get, length, take, drop, refl, subst, sym, ap, ◌∙◌, arith, length-drop, min}
use Rattle.std.specs.List.{after_last, count_by, suffix_len}
use Rattle.std.proofs.Math.Seq.{take-add}
use Rattle.std.proofs.lemmas.List.{length-take-le, take-take, take_min}
use Rattle.std.proofs.lemmas.List.Sums.{count_by-le-length, suffix_len-le-length, sum_by-append, sum_by-take-drop}
use Rattle.rb_meaning.specs.Place.{is_line_feed}
use Rattle.rb_help.specs.Lines.{before_place}
use Rattle.rb_help.specs.Headings.{AreCounted, begins_character}

-- the count up to a place is that up to an earlier one and that in between
pub count_further : (text : List ℕ) (from to : ℕ) → from ≤ to →
    count_by begins_character (take from text) + count_by begins_character (take (to - from) (drop from text)) ≡ count_by begins_character (take to text)
count_further text from to h =
    let n : from + (to - from) ≡ to = omega arith in
    sym (ap (λ xs. count_by begins_character xs) (rw n at (take-add from (to - from) text)) ∙
    sum_by-append (λ b. cond (begins_character b) 1 0) (take from text) (take (to - from) (drop from text)))

-- no more characters begin before a place than there are bytes
pub count_few : (text : List ℕ) (at : ℕ) → at ≤ length text → count_by begins_character (take at text) ≤ at
count_few text at h = omega (arith, count_by-le-length begins_character (take at text), length-take-le at text h)

-- of the characters before a place, some begin before its line
pub count_of_line : (text : List ℕ) (place : ℕ) → place ≤ length text →
    count_by begins_character (take (place - length (before_place text place)) text) + count_by begins_character (before_place text place) ≡
    count_by begins_character (take place text)
count_of_line text place h =
    let front = take place text in
    let s = suffix_len (λ b. not (is_line_feed b)) front in
    let i = length front - s in
    let long : length front ≡ place = length-take-le place text h in
    let within : s ≤ length front = suffix_len-le-length (λ b. not (is_line_feed b)) front in
    let line : place - length (before_place text place) ≡ i = omega (arith, long, within, length-drop i front) in
    let both = sum_by-take-drop (λ b. cond (begins_character b) 1 0) front i in
    ap (λ n. count_by begins_character (take n text) + count_by begins_character (before_place text place)) line ∙
    ap (λ xs. count_by begins_character xs + count_by begins_character (before_place text place)) (sym (take-take i place text (omega arith))) ∙ both

-- the line of a place behind the end is that of the end
pub before_end : (text : List ℕ) (at : ℕ) → before_place text (min at (length text)) ≡ before_place text at
before_end text at = ap (λ xs. after_last is_line_feed xs) (take_min at text)

-- what holds of each item by its place holds so with the last one
all_more : (Holds : ℕ → ℕ → Type 0) (ns : List ℕ) (n : ℕ) → ((k : ℕ) (m : ℕ) → slice_get ns k ≡ Some m → Holds k m) → Holds (length ns) n
    → (k : ℕ) (m : ℕ) → slice_get (ns ++ n ∷ []) k ≡ Some m → Holds k m
all_more Holds [] n all last zero m e = let same : n ≡ m = cc e in subst (λ x. Holds 0 x) same last
all_more Holds [] n all last (suc k) m e = absurd (cc e)
all_more Holds (first ∷ ns) n all last zero m e = all zero m e
all_more Holds (first ∷ ns) n all last (suc k) m e = all_more (λ j x. Holds (suc j) x) ns n (λ j x there. all (suc j) x there) last k m e

-- one count more is noted
pub counted_more : (text : List ℕ) (ns : List ℕ) (n : ℕ) → AreCounted text ns → n ≡ count_by begins_character (take (length ns * 64) text) → AreCounted text (ns ++ n ∷ [])
counted_more text ns n counted last = all_more (λ k x. x ≡ count_by begins_character (take (k * 64) text)) ns n counted last

-- there is one more
pub one_more : (ns : List ℕ) (n : ℕ) → length (ns ++ n ∷ []) ≡ length ns + 1
one_more [] n = refl
one_more (first ∷ ns) n = let rest : length (ns ++ n ∷ []) ≡ length ns + 1 = one_more ns n in grind (arith)
