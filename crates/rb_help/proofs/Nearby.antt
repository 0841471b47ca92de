-- Lines of which only a piece near a place is looked at.
use Rattle.std.proofs.Common.{◌≡◌, ℕ, ◌+◌, ◌-◌, ◌<◌, ◌≤◌, List, [], ◌++◌, Bool, true, false, cond, not, length, take, drop, refl, sym, ap, ◌∙◌, arith, append_assoc, append-nil, length-append, length-drop, reverse, min, ◌⊎◌, inl, inr}
use Rattle.std.specs.List.{after_last, before_first, prefix_len, suffix_len}
use Rattle.std.proofs.Math.Dec.{eqb}
use Rattle.std.proofs.Math.Nat.{eq-or-lt_of_le}
use Rattle.std.proofs.Math.Seq.{drop-append-add, take-add, take-append-add}
use Rattle.std.proofs.lemmas.Bool.{eqb-true}
use Rattle.std.proofs.lemmas.List.{drop-append-le, drop-drop, drop-take, drop_all, drop_min, length-reverse, length-take-le, reverse-append, take-append-drop, take-append-le, take-take, take_all, take_min}
use Rattle.std.proofs.lemmas.List.Folds.{prefix_len-append}
use Rattle.std.proofs.lemmas.List.Sums.{prefix_len-le-length, suffix_len-le-length}
use Rattle.rb_meaning.specs.Place.{is_line_feed}
use Rattle.rb_help.specs.Lines.{before_place, line_at}
use Rattle.rb_help.specs.Near.{IsNear}

-- how long the end is that passes, of two texts one after the other
suffix_len-append : (p : ℕ → Bool) (xs ys : List ℕ) →
    suffix_len p (xs ++ ys) ≡ cond (eqb (suffix_len p ys) (length ys)) (length ys + suffix_len p xs) (suffix_len p ys)
suffix_len-append p xs ys =
    rw (reverse-append xs ys, prefix_len-append p (reverse ys) (reverse xs), length-reverse ys) refl

-- What stands after the last that passes, of two texts one after the other: it begins in the first text where none of the second passes.
pub record Front (p : ℕ → Bool) (xs ys : List ℕ) : Type 0 where
  pub front : List ℕ
  pub whole : after_last p (xs ++ ys) ≡ front ++ after_last p ys
  pub none : length (after_last p ys) < length ys → front ≡ []
  pub nothing : xs ≡ [] → front ≡ []

front_from : (p : ℕ → Bool) (xs ys : List ℕ) (b : Bool) → eqb (suffix_len (λ x. not (p x)) ys) (length ys) ≡ b → Front p xs ys
front_from p xs ys true e =
    let q : ℕ → Bool = λ x. not (p x) in
    let s : suffix_len q ys ≡ length ys = eqb-true (suffix_len q ys) (length ys) e in
    let k = suffix_len-le-length q xs in
    let all : suffix_len q (xs ++ ys) ≡ length ys + suffix_len q xs = rw (suffix_len-append q xs ys, e) refl in
    let count : length (xs ++ ys) - suffix_len q (xs ++ ys) ≡ length xs - suffix_len q xs = rw (all, length-append xs ys) (omega arith) in
    let zero : length ys - suffix_len q ys ≡ 0 = omega arith in
    let own : after_last p ys ≡ ys = ap (λ n. drop n ys) zero in
    record {
      front = after_last p xs;
      whole = ap (λ n. drop n (xs ++ ys)) count ∙ drop-append-le (length xs - suffix_len q xs) xs ys (omega arith) ∙ ap (λ zs. after_last p xs ++ zs) (sym own);
      none = λ h. absurd (omega (arith, ap length own));
      nothing = λ h. rw h refl;
    }
front_from p xs ys false e =
    let q : ℕ → Bool = λ x. not (p x) in
    let k = suffix_len-le-length q ys in
    let all : suffix_len q (xs ++ ys) ≡ suffix_len q ys = rw (suffix_len-append q xs ys, e) refl in
    let count : length (xs ++ ys) - suffix_len q (xs ++ ys) ≡ length xs + (length ys - suffix_len q ys) = rw (all, length-append xs ys) (omega arith) in
    record {
      front = [];
      whole = ap (λ n. drop n (xs ++ ys)) count ∙ drop-append-add xs ys (length ys - suffix_len q ys);
      none = λ h. refl;
      nothing = λ h. refl;
    }

-- What stands before the first that passes, of two texts one after the other: it goes into the second text where none of the first passes.
pub record Behind (p : ℕ → Bool) (ys zs : List ℕ) : Type 0 where
  pub rest : List ℕ
  pub whole : before_first p (ys ++ zs) ≡ before_first p ys ++ rest
  pub none : length (before_first p ys) < length ys → rest ≡ []
  pub nothing : zs ≡ [] → rest ≡ []

behind_from : (p : ℕ → Bool) (ys zs : List ℕ) (b : Bool) → eqb (prefix_len (λ x. not (p x)) ys) (length ys) ≡ b → Behind p ys zs
behind_from p ys zs true e =
    let q : ℕ → Bool = λ x. not (p x) in
    let s : prefix_len q ys ≡ length ys = eqb-true (prefix_len q ys) (length ys) e in
    let all : prefix_len q (ys ++ zs) ≡ length ys + prefix_len q zs = rw (prefix_len-append q ys zs, e) refl in
    let own : before_first p ys ≡ ys = take_all (prefix_len q ys) ys (omega arith) in
    record {
      rest = before_first p zs;
      whole = ap (λ n. take n (ys ++ zs)) all ∙ take-append-add ys zs (prefix_len q zs) ∙ ap (λ xs. xs ++ before_first p zs) (sym own);
      none = λ h. absurd (omega (arith, ap length own));
      nothing = λ h. rw h refl;
    }
behind_from p ys zs false e =
    let q : ℕ → Bool = λ x. not (p x) in
    let all : prefix_len q (ys ++ zs) ≡ prefix_len q ys = rw (prefix_len-append q ys zs, e) refl in
    record {
      rest = [];
      whole = ap (λ n. take n (ys ++ zs)) all ∙ take-append-le (prefix_len q ys) ys zs (prefix_len-le-length q ys) ∙ sym (append-nil (before_first p ys));
      none = λ h. refl;
      nothing = λ h. refl;
    }

-- There is nothing more where a piece is shorter than what is looked at and than the reach, or where what is looked at is.
bound_by : (n l reach : ℕ) (xs : List ℕ) → (n ≡ l) ⊎ (n < l) → n < reach → (n < l → xs ≡ []) → (l < reach → xs ≡ []) → xs ≡ []
bound_by n l reach xs (inl e) h short none = none (omega arith)
bound_by n l reach xs (inr k) h short none = short k

-- nothing stands behind the end of the text
nothing_behind : (text : List ℕ) (place to : ℕ) → place ≤ to → to ≡ length text → drop (to - place) (drop place text) ≡ []
nothing_behind text place to h e = drop_all (to - place) (drop place text) (omega (arith, length-drop place text))

-- a range of the text around a place, as the two texts that it has before and behind it
pub near_piece : (text : List ℕ) (at place from to : ℕ) (piece : List ℕ) (offset : ℕ) → place ≡ min at (length text) →
    from ≤ place → place ≤ to → to ≤ length text → (place - from < 121 → from ≡ 0) → (to - place < 121 → to ≡ length text) →
    piece ≡ line_at (take (to - from) (drop from text)) (place - from) →
    offset ≡ length (before_place (take (to - from) (drop from text)) (place - from)) → IsNear text at 121 piece offset
near_piece text at place from to piece offset same h k m before behind is_piece is_offset =
    let n = place - from in
    let o = to - place in
    let x = take from text in
    let y = take n (drop from text) in
    let z = take o (drop place text) in
    let w = drop o (drop place text) in
    let window = take (to - from) (drop from text) in
    let n_is : from + n ≡ place = omega arith in
    let o_is : n + o ≡ to - from = omega arith in
    let front_text : take at text ≡ x ++ y = sym (take_min at text) ∙ ap (λ i. take i text) (sym same) ∙ (rw n_is at (take-add from n text)) in
    let behind_text : drop at text ≡ z ++ w = sym (drop_min at text) ∙ ap (λ i. drop i text) (sym same) ∙ sym (take-append-drop o (drop place text)) in
    let front_window : take n window ≡ y = take-take n (to - from) (drop from text) (omega arith) in
    let behind_window : drop n window ≡ z =
    ap (λ i. drop n (take i (drop from text))) (sym o_is) ∙ drop-take n o (drop from text) ∙ ap (λ xs. take o xs) (drop-drop n from text ∙ ap (λ i. drop i text) n_is) in
    let f = front_from is_line_feed x y (eqb (suffix_len (λ b. not (is_line_feed b)) y) (length y)) refl in
    let b = behind_from is_line_feed z w (eqb (prefix_len (λ b. not (is_line_feed b)) z) (length z)) refl in
    let long_y : length y ≡ n = length-take-le n (drop from text) (omega (arith, length-drop from text)) in
    let long_z : length z ≡ o = length-take-le o (drop place text) (omega (arith, length-drop place text)) in
    let before_it : before_place text at ≡ f.front ++ after_last is_line_feed y = ap (λ xs. after_last is_line_feed xs) front_text ∙ f.whole in
    let before_in : before_place window n ≡ after_last is_line_feed y = ap (λ xs. after_last is_line_feed xs) front_window in
    let behind_it : before_first is_line_feed (drop at text) ≡ before_first is_line_feed z ++ b.rest = ap (λ xs. before_first is_line_feed xs) behind_text ∙ b.whole in
    let behind_in : before_first is_line_feed (drop n window) ≡ before_first is_line_feed z = ap (λ xs. before_first is_line_feed xs) behind_window in
    let u = after_last is_line_feed y in
    let v = before_first is_line_feed z in
    let piece_is : piece ≡ u ++ v = is_piece ∙ rw (before_in, behind_in) refl in
    let offset_is : offset ≡ length u = is_offset ∙ ap (λ xs. length xs) before_in in
    let short_u : length u ≤ length y = omega (arith, length-drop (length y - suffix_len (λ b. not (is_line_feed b)) y) y) in
    let short_v : length v ≤ length z = omega (arith, length-take-le (prefix_len (λ b. not (is_line_feed b)) z) z (prefix_len-le-length (λ b. not (is_line_feed b)) z), prefix_len-le-length (λ b. not (is_line_feed b)) z) in
    let long_piece : length piece ≡ length u + length v = ap (λ xs. length xs) piece_is ∙ length-append u v in
    record {
      front = f.front;
      rest = b.rest;
      whole = rw (before_it, behind_it, piece_is) (simp append_assoc);
      place = ap (λ xs. length xs) before_it ∙ length-append f.front u ∙ ap (λ i. length f.front + i) (sym offset_is);
      begins = λ less. bound_by (length u) (length y) 121 f.front (eq-or-lt_of_le short_u) (omega arith) f.none (λ few. f.nothing (ap (λ i. take i text) (before (omega arith))));
      ends = λ less. bound_by (length v) (length z) 121 b.rest (eq-or-lt_of_le short_v) (omega arith) b.none (λ few. b.nothing (nothing_behind text place to k (behind (omega arith))));
    }
