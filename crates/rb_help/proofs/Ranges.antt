-- Ranges of lists around places.
use Rattle.std.proofs.Common.{◌≡◌, ℕ, ◌+◌, ◌-◌, ◌≤◌, List, ◌++◌, length, take, drop, arith, length-drop, sym}
use Rattle.std.proofs.lemmas.List.{take-append-drop, length-take-le, take_rest, drop-take, drop-drop}
use Rattle.std.proofs.Math.Seq.{take-append-add}
use Rattle.rb_help.specs.Quotes.{IsCut, longest_whole}

-- a front, in two parts
pub take-add : (n e : ℕ) (ys : List ℕ) → n ≤ length ys → take (n + e) ys ≡ take n ys ++ take e (drop n ys)
take-add n e ys h =
    rw (take-append-drop n ys, length-take-le n ys h) at (take-append-add (take n ys) (drop n ys) e)

-- a range that begins n before a place and ends e behind it
pub range_around : (s n e : ℕ) (xs : List ℕ) → s + n ≤ length xs →
    take (n + e) (drop s xs) ≡ drop s (take (s + n) xs) ++ take e (drop (s + n) xs)
range_around s n e xs h =
    rw (take-add n e (drop s xs) (omega (arith, length-drop {A = ℕ})), drop-take s n xs, drop-drop n s xs)

-- the same where the range begins and ends at known places
pub range_of_line : (s p e : ℕ) (xs : List ℕ) → s ≤ p → p ≤ length xs →
    take (p + e - s) (drop s xs) ≡ drop s (take p xs) ++ take e (drop p xs)
range_of_line s p e xs h k =
    let q : s + (p - s) ≡ p = omega arith in
    let r : p + e - s ≡ (p - s) + e = omega arith in
    rw r (rw q at (range_around s (p - s) e xs (omega arith)))

-- a list in three parts
pub in_three : (from to : ℕ) (line : List ℕ) → from ≤ to → to ≤ length line →
    line ≡ take from line ++ take (to - from) (drop from line) ++ take (length line - to) (drop to line)
in_three from to line h k =
    let e : from + (to - from) ≡ to = omega arith in
    let front = rw e at (take-add from (to - from) line (omega arith)) in
    rw (take_rest line to, ← front) (sym (take-append-drop to line))

-- a line that is cut at two places around a third, unless it is short
pub cut_at : (line : List ℕ) (at from to : ℕ) → from ≤ at → at ≤ to → to ≤ length line →
    (length line ≤ longest_whole → (from ≡ 0) × (to ≡ length line)) →
    IsCut line at (take from line) (take (to - from) (drop from line)) (take (length line - to) (drop to line))
cut_at line at from to h k m short = record {
  whole = in_three from to line (omega arith) m;
  from = rw (length-take-le from line (omega arith)) h;
  to = rw (length-take-le from line (omega arith), length-take-le (to - from) (drop from line) (omega (arith, length-drop {A = ℕ}))) (omega arith);
  short = λ s. let ends = short s in rw (ends.0, ends.1) (take_rest line 0);
}
