-- Values at the client, and what operators give on them.
use Rattle.std.proofs.Common.{◌≡◌, refl, sym, subst, ℕ, ℤ, pos, ◌<◌, ◌≤◌, ◌+ℤ◌, ◌-ℤ◌, ◌*ℤ◌, neg_ℤ, int_rem, int_lt, int_le, List, ◌++◌, length, arith, inr, Bool as Truth, true, false, not, ◌&&◌, ◌||◌, cond, nat_lt, All, Result, Ok, Err}
use Rattle.std.specs.Int.{int_wrap, int_wrapping_div, w64}
use Rattle.std.specs.Ordering.{int_eq}
use Rattle.std.specs.Fmt.{signed_decimal}
use Rattle.std.proofs.lemmas.Bool.{ltb-false}
use Rattle.std.proofs.lemmas.Str.{IsUtf8-append}
use Rattle.std.proofs.lemmas.List.Elements.{All-weaker}
use Rattle.rb_trees.specs.Limits.{longest_text}
use Rattle.rb_trees.specs.declared.code.UnOp.{UnOp}
use Rattle.rb_trees.specs.declared.code.UnOp.TheVariants as un
use Rattle.rb_trees.specs.declared.code.BinOp.{BinOp}
use Rattle.rb_trees.specs.declared.code.BinOp.TheVariants as bin
use Rattle.rb_trees.specs.declared.values.Value.{Value}
use Rattle.rb_trees.specs.declared.values.Value.TheOpen.{Value-F}
use Rattle.rb_trees.specs.declared.values.Value.TheVariants as value
use Rattle.rb_trees.specs.declared.values.Value.TheViews.{out-Value}
use Rattle.rb_trees.specs.declared.values.Fault.{Fault}
use Rattle.rb_meaning_types.specs.Values.{IsInt, IsText, IsList}
use Rattle.rb_meaning_code.specs.Faults.{plain_fault, division_by_zero, text_too_long}
use Rattle.rb_meaning_code.specs.Operators.{bool_text, negation, opposite, count, as_text, on_one, number, joined_text, plus, on_numbers, divided, quotient, remainder, equal, truth_by, on_truths, on_two, conjunct, disjunct, by_left}
use Rattle.rb_meaning_code.specs.Remote.{Item, AnInt, ABool, AText, AnObject, Kind, Nothing, One, Rows}
use Rattle.rb_law_types.specs.Kept.{IsPrimitiveForm, IsPrimitive, IsBoundedForm}
use Rattle.rb_law_types.specs.Operators.{IfDecided}
use Rattle.rb_law_types.specs.Remote.{IsItemForm, AreRowsForm, IsNothingForm, IsKindForm, IsFault}
use Rattle.rb_law_types.proofs.Faults.{empty_text}
use Rattle.rb_law_types.proofs.Values.{int_out, bool_out, text_out}
use Rattle.rb_law_types.proofs.Results.{wrapped, divides, leaves, counted, decimal_text, truth_text}

-- a single value: primitive within its limits, or one of so many objects
abbrev pub IsSingleForm : ℕ → Value-F Value → Type 0
IsSingleForm objects (Value-F.Int number) = IsInt number
IsSingleForm objects (Value-F.Bool truth) = Unit {0}
IsSingleForm objects (Value-F.Text text) = IsText text
IsSingleForm objects (Value-F.Remote object) = object < objects
IsSingleForm objects _ = ⊥

-- nothing, a single value or rows of such
abbrev pub IsFarForm : ℕ → Value-F Value → Type 0
IsFarForm objects Value-F.Unit = Unit {0}
IsFarForm objects (Value-F.Int number) = IsInt number
IsFarForm objects (Value-F.Bool truth) = Unit {0}
IsFarForm objects (Value-F.Text text) = IsText text
IsFarForm objects (Value-F.Remote object) = object < objects
IsFarForm objects (Value-F.Rows rows) = IsList rows × All (λ v. IsSingleForm objects (out-Value v)) rows
IsFarForm objects _ = ⊥

abbrev pub IsFar : ℕ → Value → Type 0
IsFar objects v = IsFarForm objects (out-Value v)

abbrev pub IsSingle : ℕ → Value → Type 0
IsSingle objects v = IsSingleForm objects (out-Value v)

module _ (n m : ℕ) (le : n ≤ m) where
  pub single_more : (w : Value-F Value) → IsSingleForm n w → IsSingleForm m w
  single_more (Value-F.Int z) h = h
  single_more (Value-F.Bool b) h = tt
  single_more (Value-F.Text t) h = h
  single_more (Value-F.Remote o) h = omega (arith, h, le)
  single_more Value-F.Unit h = absurd h
  single_more _ h = absurd h

  pub far_more : (w : Value-F Value) → IsFarForm n w → IsFarForm m w
  far_more Value-F.Unit h = tt
  far_more (Value-F.Int z) h = h
  far_more (Value-F.Bool b) h = tt
  far_more (Value-F.Text t) h = h
  far_more (Value-F.Remote o) h = omega (arith, h, le)
  far_more (Value-F.Rows rows) h = (h.0, All-weaker (IsSingle n) (IsSingle m) (λ v. single_more (out-Value v)) rows h.1)
  far_more (Value-F.List items) h = absurd h
  far_more (Value-F.Ref o) h = absurd h

module _ (n : ℕ) where
  pub primitive_far : (w : Value-F Value) → IsPrimitiveForm w → IsFarForm n w
  primitive_far (Value-F.Int z) h = h
  primitive_far (Value-F.Bool b) h = tt
  primitive_far (Value-F.Text t) h = h
  primitive_far Value-F.Unit h = absurd h
  primitive_far _ h = absurd h

  pub primitive_single : (w : Value-F Value) → IsPrimitiveForm w → IsSingleForm n w
  primitive_single (Value-F.Int z) h = h
  primitive_single (Value-F.Bool b) h = tt
  primitive_single (Value-F.Text t) h = h
  primitive_single Value-F.Unit h = absurd h
  primitive_single _ h = absurd h

  pub single_far : (w : Value-F Value) → IsSingleForm n w → IsFarForm n w
  single_far (Value-F.Int z) h = h
  single_far (Value-F.Bool b) h = tt
  single_far (Value-F.Text t) h = h
  single_far (Value-F.Remote o) h = h
  single_far Value-F.Unit h = absurd h
  single_far _ h = absurd h

  pub far_bounded : (w : Value-F Value) → IsFarForm n w → IsBoundedForm w
  far_bounded (Value-F.Int z) h = h
  far_bounded (Value-F.Text t) h = h
  far_bounded Value-F.Unit h = tt
  far_bounded _ h = tt

  item_single : (item : Item) (w : Value-F Value) → IsItemForm n item w → IsSingleForm n w
  item_single AnInt (Value-F.Int z) h = h
  item_single ABool (Value-F.Bool b) h = tt
  item_single AText (Value-F.Text t) h = h
  item_single AnObject (Value-F.Remote o) h = h
  item_single AnInt Value-F.Unit h = absurd h
  item_single _ _ h = absurd h

  rows_far : (item : Item) (w : Value-F Value) → AreRowsForm n item w → IsFarForm n w
  rows_far item (Value-F.Rows rows) h = (h.0, All-weaker (λ v. IsItemForm n item (out-Value v)) (IsSingle n) (λ v. item_single item (out-Value v)) rows h.1)
  rows_far item Value-F.Unit h = absurd h
  rows_far item _ h = absurd h

  nothing_far : (w : Value-F Value) → IsNothingForm w → IsFarForm n w
  nothing_far Value-F.Unit h = tt
  nothing_far (Value-F.Bool b) h = absurd h
  nothing_far _ h = absurd h

  pub kind_far : (k : Kind) (w : Value-F Value) → IsKindForm n k w → IsFarForm n w
  kind_far Nothing w h = nothing_far w h
  kind_far (One item) w h = single_far w (item_single item w h)
  kind_far (Rows item) w h = rows_far item w h

-- what operators give: a primitive value, or a fault

pub plain_is : (code : ℕ) → 1 ≤ code → code ≤ 12 → IsFault (plain_fault code)
plain_is code least most = record { least = least; most = most; text = empty_text; plain = inr refl }

pub kind_is : IsFault (plain_fault 12)
kind_is = plain_is 12 (omega arith) (omega arith)

abbrev pub Given : {A : Type 0} → (A → Type 0) → Result A Fault → Type 0
Given P (Ok a) = P a
Given P (Err f) = IsFault f

int_given : (z : ℤ) → IsInt z → IsPrimitive (value.Int z)
int_given z h = subst IsPrimitiveForm (sym (int_out z)) h

bool_given : (b : Truth) → IsPrimitive (value.Bool b)
bool_given b = subst IsPrimitiveForm (sym (bool_out b)) tt

text_given : (t : List ℕ) → IsText t → IsPrimitive (value.Text t)
text_given t h = subst IsPrimitiveForm (sym (text_out t)) h

module _ (n : ℕ) where
  negated : (w : Value-F Value) → Given IsPrimitive (negation w)
  negated (Value-F.Bool b) = bool_given (not b)
  negated Value-F.Unit = kind_is
  negated _ = kind_is

  opposed : (w : Value-F Value) → Given IsPrimitive (opposite w)
  opposed (Value-F.Int z) = int_given (int_wrap w64 (neg_ℤ z)) (wrapped (neg_ℤ z))
  opposed Value-F.Unit = kind_is
  opposed _ = kind_is

  lengths : (w : Value-F Value) → IsFarForm n w → Given IsPrimitive (count w)
  lengths (Value-F.Text t) h = int_given (pos (length t)) (counted (length t) (omega (arith, h.1)))
  lengths (Value-F.List items) h = absurd h
  lengths Value-F.Unit h = kind_is
  lengths _ h = kind_is

  shown : (w : Value-F Value) → IsFarForm n w → Given IsPrimitive (as_text w)
  shown (Value-F.Int z) h = text_given (signed_decimal z) (decimal_text z h)
  shown (Value-F.Bool b) h = text_given (bool_text b) (truth_text b)
  shown Value-F.Unit h = kind_is
  shown _ h = kind_is

  pub far_one : (o : UnOp) (w : Value-F Value) → IsFarForm n w → Given IsPrimitive (on_one o w)
  far_one un.Not w h = negated w
  far_one un.Neg w h = opposed w
  far_one un.Len w h = lengths w h
  far_one un.Str w h = shown w h

  numbers : (f : ℤ → ℤ → Result Value Fault) → ((a b : ℤ) → IsInt a → IsInt b → Given IsPrimitive (f a b)) → (v w : Value-F Value) → IsFarForm n v → IsFarForm n w → Given IsPrimitive (on_numbers f v w)
  numbers f h (Value-F.Int a) (Value-F.Int b) m k = h a b m k
  numbers f h (Value-F.Int a) Value-F.Unit m k = kind_is
  numbers f h (Value-F.Int a) _ m k = kind_is
  numbers f h Value-F.Unit w m k = kind_is
  numbers f h _ w m k = kind_is

  divided_given : (f : ℤ → ℤ → ℤ) (a b : ℤ) → IsInt (f a b) → Given IsPrimitive (divided f a b)
  divided_given f a b h = by (int_eq b (pos 0))
    where
      by : (t : Truth) → Given IsPrimitive (cond t (Err division_by_zero) (Ok (value.Int (f a b))))
      by true = plain_is 1 (omega arith) (omega arith)
      by false = int_given (f a b) h

  texts_joined : (a b : List ℕ) → IsText a → IsText b → Given IsPrimitive (joined_text a b)
  texts_joined a b h k = by (nat_lt longest_text (length (a ++ b))) refl
    where
      by : (t : Truth) → nat_lt longest_text (length (a ++ b)) ≡ t → Given IsPrimitive (cond t (Err text_too_long) (Ok (value.Text (a ++ b))))
      by true e = plain_is 3 (omega arith) (omega arith)
      by false e = text_given (a ++ b) (IsUtf8-append a b h.0 k.0, ltb-false longest_text (length (a ++ b)) e)

  sums : (v w : Value-F Value) → IsFarForm n v → IsFarForm n w → Given IsPrimitive (plus v w)
  sums (Value-F.Int a) (Value-F.Int b) m k = int_given (int_wrap w64 (a +ℤ b)) (wrapped (a +ℤ b))
  sums (Value-F.Text a) (Value-F.Text b) m k = texts_joined a b m k
  sums (Value-F.List a) w m k = absurd m
  sums (Value-F.Int a) Value-F.Unit m k = kind_is
  sums (Value-F.Int a) _ m k = kind_is
  sums (Value-F.Text a) Value-F.Unit m k = kind_is
  sums (Value-F.Text a) _ m k = kind_is
  sums Value-F.Unit w m k = kind_is
  sums _ w m k = kind_is

  abbrev Any : Truth → Type 0
  Any b = Unit {0}

  same : (v w : Value-F Value) → Given Any (equal v w)
  same (Value-F.Int a) (Value-F.Int b) = tt
  same (Value-F.Bool a) (Value-F.Bool b) = tt
  same (Value-F.Text a) (Value-F.Text b) = tt
  same (Value-F.Int a) Value-F.Unit = kind_is
  same (Value-F.Int a) _ = kind_is
  same (Value-F.Bool a) Value-F.Unit = kind_is
  same (Value-F.Bool a) _ = kind_is
  same (Value-F.Text a) Value-F.Unit = kind_is
  same (Value-F.Text a) _ = kind_is
  same Value-F.Unit w = kind_is
  same _ w = kind_is

  told : (f : Truth → Truth) (r : Result Truth Fault) → Given Any r → Given IsPrimitive (truth_by f r)
  told f (Ok b) h = bool_given (f b)
  told f (Err fault) h = h

  truths : (f : Truth → Truth → Truth) (v w : Value-F Value) → Given IsPrimitive (on_truths f v w)
  truths f (Value-F.Bool a) (Value-F.Bool b) = bool_given (f a b)
  truths f (Value-F.Bool a) Value-F.Unit = kind_is
  truths f (Value-F.Bool a) _ = kind_is
  truths f Value-F.Unit w = kind_is
  truths f _ w = kind_is

  pub far_two : (o : BinOp) (v w : Value-F Value) → IsFarForm n v → IsFarForm n w → Given IsPrimitive (on_two o v w)
  far_two bin.Add v w h g = sums v w h g
  far_two bin.Sub v w h g = numbers _ (λ a b m k. int_given (int_wrap w64 (a -ℤ b)) (wrapped (a -ℤ b))) v w h g
  far_two bin.Mul v w h g = numbers _ (λ a b m k. int_given (int_wrap w64 (a *ℤ b)) (wrapped (a *ℤ b))) v w h g
  far_two bin.Div v w h g = numbers quotient (λ a b m k. divided_given (int_wrapping_div w64) a b (divides a b)) v w h g
  far_two bin.Rem v w h g = numbers remainder (λ a b m k. divided_given int_rem a b (leaves a b m)) v w h g
  far_two bin.Eq v w h g = told (λ b. b) (equal v w) (same v w)
  far_two bin.Ne v w h g = told not (equal v w) (same v w)
  far_two bin.Lt v w h g = numbers _ (λ a b m k. bool_given (int_lt a b)) v w h g
  far_two bin.Le v w h g = numbers _ (λ a b m k. bool_given (int_le a b)) v w h g
  far_two bin.Gt v w h g = numbers _ (λ a b m k. bool_given (int_lt b a)) v w h g
  far_two bin.Ge v w h g = numbers _ (λ a b m k. bool_given (int_le b a)) v w h g
  far_two bin.And v w h g = truths (λ a b. a && b) v w
  far_two bin.Or v w h g = truths (λ a b. a || b) v w

  conjuncts : (w : Value-F Value) → Given (IfDecided IsPrimitive) (conjunct w)
  conjuncts (Value-F.Bool true) = tt
  conjuncts (Value-F.Bool false) = bool_given false
  conjuncts Value-F.Unit = kind_is
  conjuncts _ = kind_is

  disjuncts : (w : Value-F Value) → Given (IfDecided IsPrimitive) (disjunct w)
  disjuncts (Value-F.Bool true) = bool_given true
  disjuncts (Value-F.Bool false) = tt
  disjuncts Value-F.Unit = kind_is
  disjuncts _ = kind_is

  pub far_left : (o : BinOp) (w : Value-F Value) → Given (IfDecided IsPrimitive) (by_left o w)
  far_left bin.And w = conjuncts w
  far_left bin.Or w = disjuncts w
  far_left bin.Add w = tt
  far_left _ w = tt
