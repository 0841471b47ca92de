-- What operators give on values that fit.
use Rattle.std.proofs.Common.{◌≡◌, refl, sym, ap, ◌∙◌, subst, ℕ, ℤ, pos, negsuc, zero, suc, ◌≤◌, ◌+ℤ◌, ◌-ℤ◌, ◌*ℤ◌, neg_ℤ, int_div, int_rem, int_lt, int_le, List, [], ◌∷◌, ◌++◌, length, arith, Bool as Truth, true, false, not, ◌&&◌, ◌||◌, cond, nat_lt, nat_le, All, slice_get, Result, Ok, Err, codes}
use Rattle.std.specs.Int.{int_wrap, int_wrapping_div, cast_unsigned, w64}
use Rattle.std.specs.Ordering.{int_eq}
use Rattle.std.specs.Fmt.{signed_decimal}
use Rattle.std.proofs.lemmas.Bool.{ltb-false, leb-true}
use Rattle.std.proofs.lemmas.Int.{SFits-int_wrap}
use Rattle.std.proofs.lemmas.Fmt.{length_signed_le, IsAscii-signed}
use Rattle.std.proofs.lemmas.Str.{IsUtf8-append, IsUtf8-from_ascii}
use Rattle.std.proofs.lemmas.List.Elements.{All-append, All-head, All-tail}
use borrow.Author.Differences.{fits_in, read_fits}
use lib.Signed.{mag_rem}
use Rattle.rb_trees.specs.Limits.{longest_text, longest_list}
use Rattle.rb_trees.specs.Outcome.{known, must, ◌>>◌}
use Rattle.rb_trees.specs.declared.code.UnOp.{UnOp}
use Rattle.rb_trees.specs.declared.code.UnOp.TheVariants as un
use Rattle.rb_trees.specs.declared.code.BinOp.{BinOp}
use Rattle.rb_trees.specs.declared.code.BinOp.TheVariants as bin
use Rattle.rb_trees.specs.declared.values.Value.{Value}
use Rattle.rb_trees.specs.declared.values.Value.TheOpen.{Value-F}
use Rattle.rb_trees.specs.declared.values.Value.TheVariants as value
use Rattle.rb_trees.specs.declared.values.Value.TheViews.{out-Value}
use Rattle.rb_trees.specs.declared.values.Fault.{Fault}
use Rattle.rb_trees.specs.mirror.Declarations.{Interface}
use Rattle.rb_meaning_types.specs.Kinds as kind
use Rattle.rb_meaning_types.specs.Kinds.{Kind, is_int, is_bool, is_text, is_list, is_primitive}
use Rattle.rb_meaning_types.specs.Values.{IsInt, IsText}
use Rattle.rb_meaning_types.specs.Violations.{Placed, wanted, wrong_type}
use Rattle.rb_meaning_types.specs.Operators.{takes_operand, unary_result, takes_left, binary_result, unary_kind, binary_kind, item_of, index_kind}
use Rattle.rb_meaning_types.specs.Fits.{IsIntValue, IsBoolValue, IsTextValue, AreItems, Fits}
use Rattle.rb_meaning_code.specs.Faults.{division_by_zero, index_outside, text_too_long, list_too_long}
use Rattle.rb_meaning_code.specs.Operators.{bool_text, negation, opposite, count, as_text, on_one, joined_text, joined_list, plus, on_numbers, divided, quotient, remainder, equal, truth_by, on_truths, on_two, conjunct, disjunct, by_left}
use Rattle.rb_meaning_code.specs.Expressions.{item_at, indexed}
use Rattle.rb_meaning_code.specs.Statements.{truth_of}
use Rattle.rb_law_types.specs.Kept.{Fair}
use Rattle.rb_law_types.specs.Operators.{IfDecided, OneKeeps, TwoKeep, LeftKeeps, IndexKeeps, ListsKeep, ConditionsHold}
use Rattle.rb_law_types.proofs.Checks.{bind_ok, then_ok, must_ok, wanted_ok}
use Rattle.rb_law_types.proofs.Values.{int_fits, bool_fits, text_fits, list_fits}
use Rattle.rb_law_types.proofs.Faults.{plain_rule}

-- numbers and texts within their limits

pub wrapped : (n : ℤ) → IsInt (int_wrap w64 n)
wrapped n = SFits-int_wrap w64 n

pub divides : (a b : ℤ) → IsInt (int_wrapping_div w64 a b)
divides a b = omega (arith, fits_in, read_fits w64 (cast_unsigned w64 (int_div a b)))

pub leaves : (a b : ℤ) → IsInt a → IsInt (int_rem a b)
leaves a b h = record { sfits = omega (arith, mag_rem a b, h.sfits) }

pub counted : (n : ℕ) → n ≤ 10000 → IsInt (pos n)
counted n h = record { sfits = omega (arith, h) }

pub decimal_text : (n : ℤ) → IsInt n → IsText (signed_decimal n)
decimal_text n h = (IsUtf8-from_ascii (signed_decimal n) (IsAscii-signed n h.sfits), omega (arith, length_signed_le 20 n (omega (arith, h.sfits)) h.sfits))

pub truth_text : (b : Truth) → IsText (bool_text b)
unfolding lib.Utf8.encode
truth_text true = ((codes "true", (refl, refl)), omega arith)
truth_text false = ((codes "false", (refl, refl)), omega arith)

module _ (is : List Interface) (cs : List (List ℕ)) where
  -- what a type says of the form of a value

  int_of : (k : Kind) (v : Value) → is_int k ≡ true → Fits is cs k v → IsIntValue (out-Value v)
  int_of kind.Int v t h = h
  int_of kind.Bool v t h = absurd (cc (t))
  int_of _ v t h = absurd (cc (t))

  bool_of : (k : Kind) (v : Value) → is_bool k ≡ true → Fits is cs k v → IsBoolValue (out-Value v)
  bool_of kind.Bool v t h = h
  bool_of kind.Int v t h = absurd (cc (t))
  bool_of _ v t h = absurd (cc (t))

  -- one operand

  negated : (v : Value-F Value) → IsBoolValue v → Fair (Fits is cs kind.Bool) (negation v)
  negated (Value-F.Bool b) h = bool_fits is cs (not b)
  negated Value-F.Unit h = absurd h
  negated _ h = absurd h

  opposed : (v : Value-F Value) → IsIntValue v → Fair (Fits is cs kind.Int) (opposite v)
  opposed (Value-F.Int n) h = int_fits is cs (int_wrap w64 (neg_ℤ n)) (wrapped (neg_ℤ n))
  opposed Value-F.Unit h = absurd h
  opposed _ h = absurd h

  text_counted : (v : Value-F Value) → IsTextValue v → Fair (Fits is cs kind.Int) (count v)
  text_counted (Value-F.Text text) h = int_fits is cs (pos (length text)) (counted (length text) (omega (arith, h.1)))
  text_counted Value-F.Unit h = absurd h
  text_counted _ h = absurd h

  list_counted : (P : Value → Type 0) (v : Value-F Value) → AreItems P v → Fair (Fits is cs kind.Int) (count v)
  list_counted P (Value-F.List items) h = int_fits is cs (pos (length items)) (counted (length items) (omega (arith, h.0)))
  list_counted P Value-F.Unit h = absurd h
  list_counted P _ h = absurd h

  lengths : (k : Kind) (v : Value) → (is_text k || is_list k) ≡ true → Fits is cs k v → Fair (Fits is cs kind.Int) (count (out-Value v))
  lengths kind.Text v t h = text_counted (out-Value v) h
  lengths (kind.ListOf item) v t h = list_counted (Fits is cs item) (out-Value v) h
  lengths kind.Int v t h = absurd (cc (t))
  lengths _ v t h = absurd (cc (t))

  int_shown : (v : Value-F Value) → IsIntValue v → Fair (Fits is cs kind.Text) (as_text v)
  int_shown (Value-F.Int n) h = text_fits is cs (signed_decimal n) (decimal_text n h)
  int_shown Value-F.Unit h = absurd h
  int_shown _ h = absurd h

  bool_shown : (v : Value-F Value) → IsBoolValue v → Fair (Fits is cs kind.Text) (as_text v)
  bool_shown (Value-F.Bool b) h = text_fits is cs (bool_text b) (truth_text b)
  bool_shown Value-F.Unit h = absurd h
  bool_shown _ h = absurd h

  shows : (k : Kind) (v : Value) → (is_int k || is_bool k) ≡ true → Fits is cs k v → Fair (Fits is cs kind.Text) (as_text (out-Value v))
  shows kind.Int v t h = int_shown (out-Value v) h
  shows kind.Bool v t h = bool_shown (out-Value v) h
  shows kind.Text v t h = absurd (cc (t))
  shows _ v t h = absurd (cc (t))

  one : (o : UnOp) (k : Kind) (v : Value) → takes_operand o k ≡ true → Fits is cs k v → Fair (Fits is cs (unary_result o)) (on_one o (out-Value v))
  one un.Not k v t h = negated (out-Value v) (bool_of k v t h)
  one un.Neg k v t h = opposed (out-Value v) (int_of k v t h)
  one un.Len k v t h = lengths k v t h
  one un.Str k v t h = shows k v t h

  -- two operands

  numbers : (P : Value → Type 0) (f : ℤ → ℤ → Result Value Fault) → ((a b : ℤ) → IsInt a → IsInt b → Fair P (f a b)) → (v w : Value-F Value) → IsIntValue v → IsIntValue w → Fair P (on_numbers f v w)
  numbers P f h (Value-F.Int a) (Value-F.Int b) m n = h a b m n
  numbers P f h (Value-F.Int a) Value-F.Unit m n = absurd n
  numbers P f h (Value-F.Int a) _ m n = absurd n
  numbers P f h Value-F.Unit w m n = absurd m
  numbers P f h _ w m n = absurd m

  divided_fair : (f : ℤ → ℤ → ℤ) (a b : ℤ) → IsInt (f a b) → Fair (Fits is cs kind.Int) (divided f a b)
  divided_fair f a b h = by (int_eq b (pos 0))
    where
      by : (t : Truth) → Fair (Fits is cs kind.Int) (cond t (Err division_by_zero) (Ok (value.Int (f a b))))
      by true = plain_rule 1 (omega arith) (omega arith)
      by false = int_fits is cs (f a b) h

  texts_joined : (a b : List ℕ) → IsText a → IsText b → Fair (Fits is cs kind.Text) (joined_text a b)
  texts_joined a b h k = by (nat_lt longest_text (length (a ++ b))) refl
    where
      by : (t : Truth) → nat_lt longest_text (length (a ++ b)) ≡ t → Fair (Fits is cs kind.Text) (cond t (Err text_too_long) (Ok (value.Text (a ++ b))))
      by true e = plain_rule 3 (omega arith) (omega arith)
      by false e = text_fits is cs (a ++ b) (IsUtf8-append a b h.0 k.0, ltb-false longest_text (length (a ++ b)) e)

  lists_joined : (item : Kind) (a b : List Value) → All (Fits is cs item) a → All (Fits is cs item) b → Fair (Fits is cs (kind.ListOf item)) (joined_list a b)
  lists_joined item a b h k = by (nat_lt longest_list (length (a ++ b))) refl
    where
      by : (t : Truth) → nat_lt longest_list (length (a ++ b)) ≡ t → Fair (Fits is cs (kind.ListOf item)) (cond t (Err list_too_long) (Ok (value.List (a ++ b))))
      by true e = plain_rule 4 (omega arith) (omega arith)
      by false e = list_fits is cs item (a ++ b) (ltb-false longest_list (length (a ++ b)) e) (All-append (Fits is cs item) a b h k)

  plus_ints : (v w : Value-F Value) → IsIntValue v → IsIntValue w → Fair (Fits is cs kind.Int) (plus v w)
  plus_ints (Value-F.Int a) (Value-F.Int b) m n = int_fits is cs (int_wrap w64 (a +ℤ b)) (wrapped (a +ℤ b))
  plus_ints (Value-F.Int a) Value-F.Unit m n = absurd n
  plus_ints (Value-F.Int a) _ m n = absurd n
  plus_ints Value-F.Unit w m n = absurd m
  plus_ints _ w m n = absurd m

  plus_texts : (v w : Value-F Value) → IsTextValue v → IsTextValue w → Fair (Fits is cs kind.Text) (plus v w)
  plus_texts (Value-F.Text a) (Value-F.Text b) m n = texts_joined a b m n
  plus_texts (Value-F.Text a) Value-F.Unit m n = absurd n
  plus_texts (Value-F.Text a) _ m n = absurd n
  plus_texts Value-F.Unit w m n = absurd m
  plus_texts _ w m n = absurd m

  plus_lists : (item : Kind) (v w : Value-F Value) → AreItems (Fits is cs item) v → AreItems (Fits is cs item) w → Fair (Fits is cs (kind.ListOf item)) (plus v w)
  plus_lists item (Value-F.List a) (Value-F.List b) m n = lists_joined item a b m.1 n.1
  plus_lists item (Value-F.List a) Value-F.Unit m n = absurd n
  plus_lists item (Value-F.List a) _ m n = absurd n
  plus_lists item Value-F.Unit w m n = absurd m
  plus_lists item _ w m n = absurd m

  sums : (k : Kind) (v w : Value) → takes_left bin.Add k ≡ true → Fits is cs k v → Fits is cs k w → Fair (Fits is cs k) (plus (out-Value v) (out-Value w))
  sums kind.Int v w t h g = plus_ints (out-Value v) (out-Value w) h g
  sums kind.Text v w t h g = plus_texts (out-Value v) (out-Value w) h g
  sums (kind.ListOf item) v w t h g = plus_lists item (out-Value v) (out-Value w) h g
  sums kind.Bool v w t h g = absurd (cc (t))
  sums _ v w t h g = absurd (cc (t))

  abbrev Any : Truth → Type 0
  Any b = Unit {0}

  same_ints : (v w : Value-F Value) → IsIntValue v → IsIntValue w → Fair Any (equal v w)
  same_ints (Value-F.Int a) (Value-F.Int b) m n = tt
  same_ints (Value-F.Int a) Value-F.Unit m n = absurd n
  same_ints (Value-F.Int a) _ m n = absurd n
  same_ints Value-F.Unit w m n = absurd m
  same_ints _ w m n = absurd m

  same_bools : (v w : Value-F Value) → IsBoolValue v → IsBoolValue w → Fair Any (equal v w)
  same_bools (Value-F.Bool a) (Value-F.Bool b) m n = tt
  same_bools (Value-F.Bool a) Value-F.Unit m n = absurd n
  same_bools (Value-F.Bool a) _ m n = absurd n
  same_bools Value-F.Unit w m n = absurd m
  same_bools _ w m n = absurd m

  same_texts : (v w : Value-F Value) → IsTextValue v → IsTextValue w → Fair Any (equal v w)
  same_texts (Value-F.Text a) (Value-F.Text b) m n = tt
  same_texts (Value-F.Text a) Value-F.Unit m n = absurd n
  same_texts (Value-F.Text a) _ m n = absurd n
  same_texts Value-F.Unit w m n = absurd m
  same_texts _ w m n = absurd m

  same : (k : Kind) (v w : Value) → is_primitive k ≡ true → Fits is cs k v → Fits is cs k w → Fair Any (equal (out-Value v) (out-Value w))
  same kind.Int v w t h g = same_ints (out-Value v) (out-Value w) h g
  same kind.Bool v w t h g = same_bools (out-Value v) (out-Value w) h g
  same kind.Text v w t h g = same_texts (out-Value v) (out-Value w) h g
  same kind.Unit v w t h g = absurd (cc (t))
  same _ v w t h g = absurd (cc (t))

  told_by : (f : Truth → Truth) (r : Result Truth Fault) → Fair Any r → Fair (Fits is cs kind.Bool) (truth_by f r)
  told_by f (Ok b) h = bool_fits is cs (f b)
  told_by f (Err fault) h = h

  truths : (f : Truth → Truth → Truth) (v w : Value-F Value) → IsBoolValue v → IsBoolValue w → Fair (Fits is cs kind.Bool) (on_truths f v w)
  truths f (Value-F.Bool a) (Value-F.Bool b) m n = bool_fits is cs (f a b)
  truths f (Value-F.Bool a) Value-F.Unit m n = absurd n
  truths f (Value-F.Bool a) _ m n = absurd n
  truths f Value-F.Unit w m n = absurd m
  truths f _ w m n = absurd m

  two : (o : BinOp) (k : Kind) (v w : Value) → takes_left o k ≡ true → Fits is cs k v → Fits is cs k w → Fair (Fits is cs (binary_result o k)) (on_two o (out-Value v) (out-Value w))
  two bin.Add k v w t h g = sums k v w t h g
  two bin.Sub k v w t h g = numbers (Fits is cs kind.Int) _ (λ a b m n. int_fits is cs (int_wrap w64 (a -ℤ b)) (wrapped (a -ℤ b))) (out-Value v) (out-Value w) (int_of k v t h) (int_of k w t g)
  two bin.Mul k v w t h g = numbers (Fits is cs kind.Int) _ (λ a b m n. int_fits is cs (int_wrap w64 (a *ℤ b)) (wrapped (a *ℤ b))) (out-Value v) (out-Value w) (int_of k v t h) (int_of k w t g)
  two bin.Div k v w t h g = numbers (Fits is cs kind.Int) quotient (λ a b m n. divided_fair (int_wrapping_div w64) a b (divides a b)) (out-Value v) (out-Value w) (int_of k v t h) (int_of k w t g)
  two bin.Rem k v w t h g = numbers (Fits is cs kind.Int) remainder (λ a b m n. divided_fair int_rem a b (leaves a b m)) (out-Value v) (out-Value w) (int_of k v t h) (int_of k w t g)
  two bin.Eq k v w t h g = told_by (λ b. b) (equal (out-Value v) (out-Value w)) (same k v w t h g)
  two bin.Ne k v w t h g = told_by not (equal (out-Value v) (out-Value w)) (same k v w t h g)
  two bin.Lt k v w t h g = numbers (Fits is cs kind.Bool) _ (λ a b m n. bool_fits is cs (int_lt a b)) (out-Value v) (out-Value w) (int_of k v t h) (int_of k w t g)
  two bin.Le k v w t h g = numbers (Fits is cs kind.Bool) _ (λ a b m n. bool_fits is cs (int_le a b)) (out-Value v) (out-Value w) (int_of k v t h) (int_of k w t g)
  two bin.Gt k v w t h g = numbers (Fits is cs kind.Bool) _ (λ a b m n. bool_fits is cs (int_lt b a)) (out-Value v) (out-Value w) (int_of k v t h) (int_of k w t g)
  two bin.Ge k v w t h g = numbers (Fits is cs kind.Bool) _ (λ a b m n. bool_fits is cs (int_le b a)) (out-Value v) (out-Value w) (int_of k v t h) (int_of k w t g)
  two bin.And k v w t h g = truths (λ a b. a && b) (out-Value v) (out-Value w) (bool_of k v t h) (bool_of k w t g)
  two bin.Or k v w t h g = truths (λ a b. a || b) (out-Value v) (out-Value w) (bool_of k v t h) (bool_of k w t g)

  -- what the left operand decides

  conjuncts : (v : Value-F Value) → IsBoolValue v → Fair (IfDecided (Fits is cs kind.Bool)) (conjunct v)
  conjuncts (Value-F.Bool true) h = tt
  conjuncts (Value-F.Bool false) h = bool_fits is cs false
  conjuncts Value-F.Unit h = absurd h
  conjuncts _ h = absurd h

  disjuncts : (v : Value-F Value) → IsBoolValue v → Fair (IfDecided (Fits is cs kind.Bool)) (disjunct v)
  disjuncts (Value-F.Bool true) h = bool_fits is cs true
  disjuncts (Value-F.Bool false) h = tt
  disjuncts Value-F.Unit h = absurd h
  disjuncts _ h = absurd h

  left_one : (o : BinOp) (k : Kind) (v : Value) → takes_left o k ≡ true → Fits is cs k v → Fair (IfDecided (Fits is cs (binary_result o k))) (by_left o (out-Value v))
  left_one bin.And k v t h = conjuncts (out-Value v) (bool_of k v t h)
  left_one bin.Or k v t h = disjuncts (out-Value v) (bool_of k v t h)
  left_one bin.Add k v t h = tt
  left_one _ k v t h = tt

  -- items

  got : {A : Type 0} (P : A → Type 0) (xs : List A) (n : ℕ) → All P xs → Fair P (known index_outside (slice_get xs n))
  got P [] n h = plain_rule 2 (omega arith) (omega arith)
  got P (x ∷ xs) zero h = All-head P x xs h
  got P (x ∷ xs) (suc n) h = got P xs n (All-tail P x xs h)

  item_got : (P : Value → Type 0) (items : List Value) (n : ℤ) → All P items → Fair P (item_at items n)
  item_got P items (pos place) h = got P items place h
  item_got P items (negsuc place) h = plain_rule 2 (omega arith) (omega arith)

  index_got : (P : Value → Type 0) (v w : Value-F Value) → AreItems P v → IsIntValue w → Fair P (indexed v w)
  index_got P (Value-F.List items) (Value-F.Int place) m n = item_got P items place m.1
  index_got P (Value-F.List items) Value-F.Unit m n = absurd n
  index_got P (Value-F.List items) _ m n = absurd n
  index_got P Value-F.Unit w m n = absurd m
  index_got P _ w m n = absurd m

  truth_got : (v : Value-F Value) → IsBoolValue v → Fair Any (truth_of v)
  truth_got (Value-F.Bool b) h = tt
  truth_got Value-F.Unit h = absurd h
  truth_got _ h = absurd h

-- what checks of operators tell

unary_ok : (o : UnOp) (p : Placed) (k : Kind) → unary_kind o p ≡ Ok k → (takes_operand o p.kind ≡ true) × (unary_result o ≡ k)
unary_ok o p k h =
    let s = then_ok (must (takes_operand o p.kind) (wrong_type p)) (Ok (unary_result o)) k h in
    (must_ok (takes_operand o p.kind) (wrong_type p) s.0, cc (s.1))

binary_ok : (o : BinOp) (p q : Placed) (k : Kind) → binary_kind o p q ≡ Ok k → (takes_left o p.kind ≡ true) × (p.kind ≡ q.kind) × (binary_result o p.kind ≡ k)
binary_ok o p q k h =
    let s = then_ok (must (takes_left o p.kind) (wrong_type p) >> wanted p.kind q) (Ok (binary_result o p.kind)) k h in
    let t = then_ok (must (takes_left o p.kind) (wrong_type p)) (wanted p.kind q) tt s.0 in
    (must_ok (takes_left o p.kind) (wrong_type p) t.0, wanted_ok p.kind q t.1, cc (s.1))

item_ok : (p : Placed) (list k : Kind) → item_of p list ≡ Ok k → list ≡ kind.ListOf k
item_ok p (kind.ListOf item) k h = let same : item ≡ k = cc (h) in ap kind.ListOf same
item_ok p kind.Int k h = absurd (cc (h))
item_ok p _ k h = absurd (cc (h))

index_ok : (p q : Placed) (k : Kind) → index_kind p q ≡ Ok k → (p.kind ≡ kind.ListOf k) × (kind.Int ≡ q.kind)
index_ok p q k h =
    let s = bind_ok (item_of p p.kind) (λ item. wanted kind.Int q >> Ok item) k h in
    let t = then_ok (wanted kind.Int q) (Ok s.0) k s.2 in
    let same : s.0 ≡ k = cc (t.1) in
    (item_ok p p.kind s.0 s.1 ∙ ap kind.ListOf same, wanted_ok kind.Int q t.0)

-- the laws

pub one_keeps : OneKeeps
one_keeps is cs o p k v e h =
    let t = unary_ok o p k e in
    subst (λ m. Fair (Fits is cs m) (on_one o (out-Value v))) t.1 (one is cs o p.kind v t.0 h)

pub two_keep : TwoKeep
two_keep is cs o p q k v w e h g =
    let t = binary_ok o p q k e in
    subst (λ m. Fair (Fits is cs m) (on_two o (out-Value v) (out-Value w))) t.2 (two is cs o p.kind v w t.0 h (subst (λ m. Fits is cs m w) (sym t.1) g))

pub left_keeps : LeftKeeps
left_keeps is cs o p q k v e h =
    let t = binary_ok o p q k e in
    subst (λ m. Fair (IfDecided (Fits is cs m)) (by_left o (out-Value v))) t.2 (left_one is cs o p.kind v t.0 h)

pub index_keeps : IndexKeeps
index_keeps is cs p q k v w e h g =
    let t = index_ok p q k e in
    index_got is cs (Fits is cs k) (out-Value v) (out-Value w) (subst (λ m. Fits is cs m v) t.0 h) (subst (λ m. Fits is cs m w) (sym t.1) g)

pub lists_keep : ListsKeep
lists_keep is cs item vs h = by (nat_le (length vs) longest_list) refl
  where
    by : (t : Truth) → nat_le (length vs) longest_list ≡ t → Fair (Fits is cs (kind.ListOf item)) (must t list_too_long >> Ok (value.List vs))
    by true e = list_fits is cs item vs (leb-true (length vs) longest_list e) h
    by false e = plain_rule 4 (omega arith) (omega arith)

pub conditions_hold : ConditionsHold
conditions_hold is cs v h = truth_got is cs (out-Value v) h
