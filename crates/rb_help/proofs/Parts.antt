-- Parts that are quoted of lines.
use Rattle.std.proofs.Common.{◌≡◌, ℕ, ◌+◌, ◌-◌, ◌<◌, ◌≤◌, List, [], ◌∷◌, ◌++◌, Bool, true, false, length, take, drop, refl, sym, ap, ◌∙◌, arith, append_assoc, append-nil, length-append, length-drop}
use Rattle.std.specs.Prelude.{nat_lt}
use Rattle.std.proofs.Math.Nat.{lt_of_not-le}
use Rattle.std.proofs.lemmas.Bool.{le-ltb, lt-ltb, ltb-false, ltb-true}
use Rattle.std.proofs.lemmas.List.{length-take-le}
use Rattle.rb_help.proofs.Ranges.{cut_at}
use Rattle.rb_help.specs.Lines.{line_at}
use Rattle.rb_help.specs.Quotes.{is_cut, longest_whole}
use Rattle.rb_help.specs.Near.{IsNear, IsPart, IsPartOfLine}
use Rattle.rb_help.specs.declared.quotes.Cut.{Cut}

-- something is cut off where it has any length
some_cut : (xs : List ℕ) → 0 < length xs → is_cut xs ≡ true
some_cut xs h = lt-ltb 0 (length xs) h

-- what is cut off is some or none still where more is put before or behind it
more_before : (xs ys : List ℕ) → (0 < length xs → 0 < length ys) → is_cut ys ≡ is_cut (xs ++ ys)
more_before [] ys h = refl
more_before (x ∷ xs) ys h = let some = h (omega arith) in
    some_cut ys some ∙ sym (some_cut ((x ∷ xs) ++ ys) (omega (arith, some, length-append (x ∷ xs) ys)))

more_behind : (xs ys : List ℕ) → (0 < length ys → 0 < length xs) → is_cut xs ≡ is_cut (xs ++ ys)
more_behind xs [] h = ap is_cut (sym (append-nil xs))
more_behind xs (y ∷ ys) h = let some = h (omega arith) in
    some_cut xs some ∙ sym (some_cut (xs ++ (y ∷ ys)) (omega (arith, some, length-append xs (y ∷ ys))))

-- nothing is left of what is empty
none_of : (xs : List ℕ) → xs ≡ [] → length xs ≡ 0
none_of xs e = ap (λ ys. length ys) e

-- a line that is quoted whole has no more than the piece
whole_line : (line front piece rest : List ℕ) → line ≡ front ++ piece ++ rest → front ≡ [] → rest ≡ [] → line ≡ piece
whole_line line front piece rest e f g = e ∙ rw (f, g) (append-nil piece)

-- the part of a piece near a place is a part of its line
pub part_of_line : (text : List ℕ) (at : ℕ) (piece : List ℕ) (offset : ℕ) (cut : Cut) →
    IsNear text at 121 piece offset → offset ≤ length piece → IsPart piece offset 63 cut → IsPartOfLine text at cut
part_of_line text at piece offset cut n within p =
    let line = line_at text at in
    let lengths : length line ≡ length n.front + length piece + length n.rest =
    ap (λ xs. length xs) n.whole ∙ length-append (n.front ++ piece) n.rest ∙ ap (λ i. i + length n.rest) (length-append n.front piece) in
    let front_length = length-append n.front p.before in
    let far_front : 0 < length n.front → 120 < offset = λ h. lt_of_not-le (λ few. omega (arith, h, none_of n.front (n.begins (omega arith)))) in
    let far_rest : 0 < length n.rest → offset + 120 < length piece = λ h. lt_of_not-le (λ few. omega (arith, h, none_of n.rest (n.ends (omega arith)))) in
    record {
      before = n.front ++ p.before;
      after = p.after ++ n.rest;
      cuts = record {
        whole = n.whole ∙ rw p.cuts.whole (simp append_assoc);
        from = omega (arith, front_length, n.place, p.cuts.from);
        to = omega (arith, front_length, n.place, p.cuts.to);
        short = λ few. let e = whole_line line n.front piece n.rest n.whole (n.begins (omega (arith, lengths, few, within))) (n.ends (omega (arith, lengths, few))) in
            p.cuts.short (omega (arith, few, ap (λ xs. length xs) e)) ∙ sym e;
      };
      starts = p.starts ∙ more_before n.front p.before (λ h. p.far_before (omega (arith, within, far_front h)) (omega (arith, far_front h)));
      goes_on = p.goes_on ∙ more_behind p.after n.rest (λ h. p.far_behind (omega (arith, far_rest h)) (omega (arith, far_rest h)));
    }

-- what is left behind a range is cut off where the range ends before the piece does
is_cut_from : (n : ℕ) (xs : List ℕ) → length xs ≡ n → nat_lt 0 n ≡ is_cut xs
is_cut_from n xs e = ap (λ i. nat_lt 0 i) (sym e)

-- one number is less than another where something is left of that
less_from : (a b : ℕ) (r : Bool) → nat_lt a b ≡ r → r ≡ nat_lt 0 (b - a)
less_from a b true e = let h = ltb-true a b e in sym (lt-ltb 0 (b - a) (omega arith))
less_from a b false e = let h = ltb-false a b e in sym (le-ltb 0 (b - a) (omega arith))

less_is_more : (a b : ℕ) → nat_lt a b ≡ nat_lt 0 (b - a)
less_is_more a b = less_from a b (nat_lt a b) refl

-- a range of a piece around a place is a part of it
pub part_of_piece : (piece : List ℕ) (at from to : ℕ) (cut : Cut) → from ≤ at → at ≤ to → to ≤ length piece →
    (length piece ≤ longest_whole → (from ≡ 0) × (to ≡ length piece)) → (longest_whole < length piece → at ≤ from + 63) →
    (longest_whole < length piece → at + 60 < length piece → to ≤ at + 60) →
    cut.is_cut_before ≡ nat_lt 0 from → cut.is_cut_behind ≡ nat_lt to (length piece) → cut.part.now ≡ take (to - from) (drop from piece) →
    IsPart piece at 63 cut
part_of_piece piece at from to cut h k m short near far starts goes_on is_part =
    let front : length (take from piece) ≡ from = length-take-le from piece (omega arith) in
    let behind : length (take (length piece - to) (drop to piece)) ≡ length piece - to =
    length-take-le (length piece - to) (drop to piece) (omega (arith, length-drop to piece)) in
    record {
      before = take from piece;
      after = take (length piece - to) (drop to piece);
      cuts = rw is_part (cut_at piece at from to h k m short);
      starts = starts ∙ is_cut_from from (take from piece) front;
      goes_on = goes_on ∙ less_is_more to (length piece) ∙ is_cut_from (length piece - to) (take (length piece - to) (drop to piece)) behind;
      far_before = λ long more. omega (arith, front, near long);
      far_behind = λ long more. omega (arith, behind, far long (omega arith));
    }
