-- A portable expression without a remote call never ends for want of fuel.
use Rattle.std.proofs.Common.{◌≡◌, refl, sym, subst, ℕ, ◌==◌, ◌++◌, length, nat_lt, ℤ, Bool as Truth, true, false, cond, ◌&&◌, ◌||◌, Option, Some, None, Result, Ok, Err}
use Rattle.std.proofs.lemmas.Bool.{and_parts}
use Rattle.std.specs.Prelude.{pos, int_rem}
use Rattle.std.specs.Int.{int_wrapping_div, w64}
use Rattle.std.specs.Ordering.{int_eq}
use Rattle.rb_trees.specs.Outcome.{known}
use Rattle.rb_trees.specs.Named.{lookup}
use Rattle.rb_trees.specs.declared.code.BinOp.{BinOp}
use Rattle.rb_trees.specs.declared.code.BinOp.TheVariants as binary
use Rattle.rb_trees.specs.declared.code.UnOp.{UnOp}
use Rattle.rb_trees.specs.declared.code.UnOp.TheVariants as unary
use Rattle.rb_trees.specs.declared.values.Value.{Value}
use Rattle.rb_trees.specs.declared.values.Value.TheOpen.{Value-F}
use Rattle.rb_trees.specs.declared.values.Value.TheViews.{out-Value}
use Rattle.rb_trees.specs.declared.values.Fault.{Fault}
use Rattle.rb_trees.specs.declared.outcomes.Raised.{Raised}
use Rattle.rb_trees.specs.mirror.Code.{Expr, Lit, Name, This, Unary, Binary, Field, Call, Index, New, Items, Taken}
use Rattle.rb_meaning_code.specs.Faults.{fuel_used, kind, raises}
use Rattle.rb_meaning_code.specs.Operators.{negation, opposite, count, as_text, on_one, plus, on_numbers, divided, quotient, remainder, equal, truth_by, on_truths, on_two, conjunct, disjunct, by_left}
use Rattle.rb_meaning_code.specs.State.{Local}
use Rattle.rb_meaning_code.specs.Dialogue.{Outcome, Gave, Faulted, Run, Handler, handle, on, next, gives, end}
use Rattle.rb_meaning_code.specs.Calls.{Bodies}
use Rattle.rb_meaning_code.specs.Expressions.{value_of, decided_or, evaluates}
use Rattle.rb_meaning_flow.specs.Facts.{Facts, is_remote}
use Rattle.rb_meaning_flow.specs.Scopes.{Scope}
use Rattle.rb_meaning_flow.specs.Portable.{portable, all_portable, holds_call}
use Rattle.rb_law_local.proofs.Meeting.{handle_seq}
use Rattle.rb_law_local.proofs.Uncut.{or_none}
use Rattle.rb_law_division.specs.Faults.{EachFault}

-- another fault than want of fuel
abbrev pub OtherThanFuel : Fault → Type 0
OtherThanFuel f = (f.code == fuel_used.code) ≡ false

abbrev CalmRule : {A : Type 0} → Result A Fault → Type 0
CalmRule (Ok a) = Unit {0}
CalmRule (Err f) = OtherThanFuel f

calm_not : (w : Value-F Value) → CalmRule (negation w)
calm_not (Value-F.Bool b) = tt
calm_not Value-F.Unit = refl
calm_not _ = refl

calm_neg : (w : Value-F Value) → CalmRule (opposite w)
calm_neg (Value-F.Int n) = tt
calm_neg Value-F.Unit = refl
calm_neg _ = refl

calm_count : (w : Value-F Value) → CalmRule (count w)
calm_count (Value-F.Text t) = tt
calm_count (Value-F.List items) = tt
calm_count Value-F.Unit = refl
calm_count _ = refl

calm_text : (w : Value-F Value) → CalmRule (as_text w)
calm_text (Value-F.Int n) = tt
calm_text (Value-F.Bool b) = tt
calm_text Value-F.Unit = refl
calm_text _ = refl

calm_one : (op : UnOp) (w : Value-F Value) → CalmRule (on_one op w)
calm_one unary.Not w = calm_not w
calm_one unary.Neg w = calm_neg w
calm_one unary.Len w = calm_count w
calm_one unary.Str w = calm_text w

either_calm : {A : Type 0} (t : Truth) (r q : Result A Fault) → CalmRule r → CalmRule q → CalmRule (cond t r q)
either_calm true r q a b = a
either_calm false r q a b = b

calm_plus : (v w : Value-F Value) → CalmRule (plus v w)
calm_plus (Value-F.Int a) (Value-F.Int b) = tt
calm_plus (Value-F.Int a) Value-F.Unit = refl
calm_plus (Value-F.Int a) _ = refl
calm_plus (Value-F.Text a) (Value-F.Text b) = either_calm (nat_lt _ (length (a ++ b))) _ _ refl tt
calm_plus (Value-F.Text a) Value-F.Unit = refl
calm_plus (Value-F.Text a) _ = refl
calm_plus (Value-F.List a) (Value-F.List b) = either_calm (nat_lt _ (length (a ++ b))) _ _ refl tt
calm_plus (Value-F.List a) Value-F.Unit = refl
calm_plus (Value-F.List a) _ = refl
calm_plus Value-F.Unit w = refl
calm_plus _ w = refl

calm_numbers : (g : ℤ → ℤ → Result Value Fault) → ((a b : ℤ) → CalmRule (g a b)) → (v w : Value-F Value) → CalmRule (on_numbers g v w)
calm_numbers g h (Value-F.Int a) (Value-F.Int b) = h a b
calm_numbers g h (Value-F.Int a) Value-F.Unit = refl
calm_numbers g h (Value-F.Int a) _ = refl
calm_numbers g h Value-F.Unit w = refl
calm_numbers g h _ w = refl

calm_divided : (g : ℤ → ℤ → ℤ) (a b : ℤ) → CalmRule (divided g a b)
calm_divided g a b = either_calm (int_eq b (pos 0)) _ _ refl tt

calm_equal : (v w : Value-F Value) → CalmRule (equal v w)
calm_equal (Value-F.Int a) (Value-F.Int b) = tt
calm_equal (Value-F.Int a) Value-F.Unit = refl
calm_equal (Value-F.Int a) _ = refl
calm_equal (Value-F.Bool a) (Value-F.Bool b) = tt
calm_equal (Value-F.Bool a) Value-F.Unit = refl
calm_equal (Value-F.Bool a) _ = refl
calm_equal (Value-F.Text a) (Value-F.Text b) = tt
calm_equal (Value-F.Text a) Value-F.Unit = refl
calm_equal (Value-F.Text a) _ = refl
calm_equal Value-F.Unit w = refl
calm_equal _ w = refl

calm_by : (g : Truth → Truth) (r : Result Truth Fault) → CalmRule r → CalmRule (truth_by g r)
calm_by g (Ok b) h = tt
calm_by g (Err fault) h = h

calm_truths : (g : Truth → Truth → Truth) (v w : Value-F Value) → CalmRule (on_truths g v w)
calm_truths g (Value-F.Bool a) (Value-F.Bool b) = tt
calm_truths g (Value-F.Bool a) Value-F.Unit = refl
calm_truths g (Value-F.Bool a) _ = refl
calm_truths g Value-F.Unit w = refl
calm_truths g _ w = refl

calm_two : (op : BinOp) (v w : Value-F Value) → CalmRule (on_two op v w)
calm_two binary.Add v w = calm_plus v w
calm_two binary.Sub v w = calm_numbers _ (λ a b. tt) v w
calm_two binary.Mul v w = calm_numbers _ (λ a b. tt) v w
calm_two binary.Div v w = calm_numbers quotient (λ a b. calm_divided (int_wrapping_div w64) a b) v w
calm_two binary.Rem v w = calm_numbers remainder (λ a b. calm_divided int_rem a b) v w
calm_two binary.Eq v w = calm_by _ (equal v w) (calm_equal v w)
calm_two binary.Ne v w = calm_by _ (equal v w) (calm_equal v w)
calm_two binary.Lt v w = calm_numbers _ (λ a b. tt) v w
calm_two binary.Le v w = calm_numbers _ (λ a b. tt) v w
calm_two binary.Gt v w = calm_numbers _ (λ a b. tt) v w
calm_two binary.Ge v w = calm_numbers _ (λ a b. tt) v w
calm_two binary.And v w = calm_truths _ v w
calm_two binary.Or v w = calm_truths _ v w

calm_and : (w : Value-F Value) → CalmRule (conjunct w)
calm_and (Value-F.Bool true) = tt
calm_and (Value-F.Bool false) = tt
calm_and Value-F.Unit = refl
calm_and _ = refl

calm_or : (w : Value-F Value) → CalmRule (disjunct w)
calm_or (Value-F.Bool true) = tt
calm_or (Value-F.Bool false) = tt
calm_or Value-F.Unit = refl
calm_or _ = refl

calm_left : (op : BinOp) (w : Value-F Value) → CalmRule (by_left op w)
calm_left binary.And w = calm_and w
calm_left binary.Or w = calm_or w
calm_left binary.Add w = tt
calm_left _ w = tt

calm_known : (o : Option Value) → CalmRule (known kind o)
calm_known (Some v) = tt
calm_known None = refl

module _ {S : Type 0} (h : Handler S) (bodies : Bodies) (f : Facts) (vs : Scope) where
  abbrev Other : Raised → Type 0
  Other r = OtherThanFuel r.fault

  -- A run ends by no such fault.
  pub record Calm {A : Type 0} (d : Run A) : Type 0 where
    pub calm : (s : S) → EachFault Other (handle h d s).0

  gives_calm : {A : Type 0} (a : A) (l : Local) → Calm (gives a l)
  gives_calm a l = record { calm = λ s. tt }

  end_calm : {A : Type 0} (l : Local) (at : ℕ) (r : Result A Fault) → CalmRule r → Calm (end l (raises at r))
  end_calm l at (Ok a) c = record { calm = λ s. tt }
  end_calm l at (Err fault) c = record { calm = λ s. c }

  then_calm : {A B : Type 0} (d : Run A) (k : A → Local → Run B) → Calm d → ((a : A) (l : Local) → Calm (k a l)) → Calm (next d k)
  then_calm {A = A} d k first more = record { calm = λ s. subst (λ o. EachFault Other o.0) (sym (handle_seq h d (on k) s)) (by (handle h d s) (first.calm s)) }
    where
      by : (o : Outcome A × S) → EachFault Other o.0 → EachFault Other (handle h (on k o.0) o.1).0
      by (Gave a l, s) e = (more a l).calm s
      by (Faulted r l, s) e = e

  decided_calm : (o : Option Value) (go : Local → Run Value) (l : Local) → Calm (go l) → Calm (decided_or o go l)
  decided_calm (Some v) go l c = gives_calm v l
  decided_calm None go l c = c

  pub value_calm : (e : Expr) → portable f vs e ≡ true → holds_call f e ≡ false → (l : Local) → Calm (evaluates bodies e l)
  value_calm (Lit at v) r none l = gives_calm v l
  value_calm (Name at name) r none l = end_calm l at (value_of l.names name) (calm_known (lookup l.names name))
  value_calm (This at) r none l = absurd (cc (r))
  value_calm (Unary at op a) r none l = then_calm (evaluates bodies a l) _ (value_calm a r none l) (λ v l1. end_calm l1 at (on_one op (out-Value v)) (calm_one op (out-Value v)))
  value_calm (Binary at op a b) r none l =
      let both = and_parts (portable f vs a) (portable f vs b) r in
      let quiet = or_none (holds_call f a) (holds_call f b) none in
      then_calm (evaluates bodies a l) _ (value_calm a both.0 quiet.0 l) (λ v l1.
      then_calm (end l1 (raises at (by_left op (out-Value v)))) _ (end_calm l1 at (by_left op (out-Value v)) (calm_left op (out-Value v))) (λ decided l2.
      decided_calm decided _ l2 (then_calm (evaluates bodies b l2) _ (value_calm b both.1 quiet.1 l2) (λ w l3. end_calm l3 at (on_two op (out-Value v) (out-Value w)) (calm_two op (out-Value v) (out-Value w))))))
  value_calm (Field at a name) r none l = absurd (cc (r))
  value_calm (Call at a method args) r none l =
      let receiver = (and_parts (is_remote f a) (portable f vs a) (and_parts (is_remote f a && portable f vs a) (all_portable f vs args) r).0).0 in
      let two = or_none (is_remote f a || holds_call f a) _ none in
      absurd (cc (receiver, (or_none (is_remote f a) (holds_call f a) two.0).0))
  value_calm (Index at a b) r none l = absurd (cc (r))
  value_calm (New at class args) r none l = absurd (cc (r))
  value_calm (Items at item items) r none l = absurd (cc (r))
  value_calm (Taken at step) r none l = absurd (cc (r))
