-- A valid script that was sent has literals within their limits, numbers of 32 bits, and no list as the input of an expression; and
-- the values of its inputs are of their forms.
use Rattle.std.proofs.Common.{◌≡◌, refl, subst, arith, ℕ, zero, suc, ◌+◌, ◌≤◌, Bool, true, false, List, [], ◌∷◌, ◌++◌, Some, slice_get, Ok}
use Rattle.std.proofs.lemmas.List.Elements.{All-from_recursion}
use Rattle.std.specs.List.{AllByRecursion}
use Rattle.rb_trees.specs.declared.values.Value.{Value, out-Value}
use Rattle.rb_trees.specs.declared.values.Value.TheOpen.{Value-F}
use Rattle.rb_trees.specs.declared.validity.ScriptRefusal.{ScriptRefusal}
use Rattle.rb_trees.specs.declared.validity.ScriptRefusal.TheVariants.{WrongInput}
use Rattle.rb_trees.specs.mirror.Scripts as script
use Rattle.rb_trees.specs.mirror.Scripts.{SExpr, SExprs, Step, Steps, Script}
use Rattle.rb_trees.specs.Validity.{Inputs, inputs_of, has, when, first, repeated, nested_exprs, nested_blocks, unknown_input, input_refusals, list_refusals, expr_refusals, exprs_refusals, whole_refusals, step_numbers, steps_numbers, step_lets, step_refusals, steps_refusals, verdict}
use Rattle.rb_meaning_bytes.specs.formats.FormedScripts as formed
use Rattle.rb_meaning_bytes.specs.formats.FormedScripts.{ArePrimitive, FormedExpr, FormedExprs, FormedStep, FormedSteps}
use Rattle.rb_meaning_bytes.specs.formats.Items.{form_items, count_items}
use Rattle.rb_law_types.specs.Kept.{IsPrimitive}
use Rattle.rb_law_types.specs.Scripts as given
use Rattle.rb_law_types.specs.Scripts.{IsBoundedSExpr, AreBoundedSExprs, IsBoundedStep, AreBoundedSteps}
use Rattle.rb_session.proofs.Nodes.{fitting_primitive}

-- ---- no refusal of the whole is none of a part

left_none : (xs ys : List ScriptRefusal) → first (xs ++ ys) ≡ Ok tt → first xs ≡ Ok tt
left_none [] ys h = refl
left_none (x ∷ xs) ys h = absurd cc

right_none : (xs ys : List ScriptRefusal) → first (xs ++ ys) ≡ Ok tt → first ys ≡ Ok tt
right_none [] ys h = h
right_none (x ∷ xs) ys h = absurd cc

-- the third and the last of four lists
third_none : (a b c d : List ScriptRefusal) → first (a ++ b ++ c ++ d) ≡ Ok tt → first c ≡ Ok tt
third_none a b c d h = right_none (a ++ b) c (left_none (a ++ b ++ c) d h)

last_none : (a b c d : List ScriptRefusal) → first (a ++ b ++ c ++ d) ≡ Ok tt → first d ≡ Ok tt
last_none a b c d h = right_none (a ++ b ++ c) d h

not_so : (b : Bool) (r : ScriptRefusal) → first (when b r) ≡ Ok tt → b ≡ false
not_so true r h = absurd cc
not_so false r h = refl

-- ---- expressions

mutual
  expr_bounded : (inputs : Inputs) (bound : List ℕ) (step depth : ℕ) (e : SExpr) → FormedExpr e → first (expr_refusals inputs bound step depth e) ≡ Ok tt → IsBoundedSExpr inputs.lists e
  expr_bounded inputs bound step depth (script.Lit v) h k = fitting_primitive (out-Value v) h
  expr_bounded inputs bound step depth (script.Input number) h k =
      not_so (has number inputs.lists) (WrongInput step)
      (right_none (unknown_input inputs step number) (when (has number inputs.lists) (WrongInput step)) (right_none (nested_exprs step depth) (input_refusals inputs step number) k))
  expr_bounded inputs bound step depth (script.Var number) h k = tt
  expr_bounded inputs bound step depth script.Root h k = tt
  expr_bounded inputs bound step depth (script.Unary op at a) h k =
      (h.0, expr_bounded inputs bound step (depth + 1) a h.1 (right_none (nested_exprs step depth) (expr_refusals inputs bound step (depth + 1) a) k))
  expr_bounded inputs bound step depth (script.Binary op at a b) h k =
      let one = nested_exprs step depth in
      let two = expr_refusals inputs bound step (depth + 1) a in
      let three = expr_refusals inputs bound step (depth + 1) b in (
        h.0,
        expr_bounded inputs bound step (depth + 1) a h.1 (right_none one two (left_none (one ++ two) three k)),
        expr_bounded inputs bound step (depth + 1) b h.2 (right_none (one ++ two) three k),
      )
  expr_bounded inputs bound step depth (script.Call at kind method target args) h k =
      let one = nested_exprs step depth in
      let two = expr_refusals inputs bound step (depth + 1) target in
      let three = exprs_refusals inputs bound step (depth + 1) args in (
        h.0,
        expr_bounded inputs bound step (depth + 1) target h.3 (right_none one two (left_none (one ++ two) three k)),
        exprs_bounded inputs bound step (depth + 1) args h.5 (right_none (one ++ two) three k),
      )

  exprs_bounded : (inputs : Inputs) (bound : List ℕ) (step depth : ℕ) (es : SExprs) → FormedExprs es → first (exprs_refusals inputs bound step depth es) ≡ Ok tt → AreBoundedSExprs inputs.lists es
  exprs_bounded inputs bound step depth script.NoSExprs h k = tt
  exprs_bounded inputs bound step depth (script.MoreSExprs e es) h k =
      let one = expr_refusals inputs bound step depth e in
      let more = exprs_refusals inputs bound step depth es in
      (expr_bounded inputs bound step depth e h.0 (left_none one more k), exprs_bounded inputs bound step depth es h.1 (right_none one more k))

whole_bounded : (inputs : Inputs) (bound : List ℕ) (step : ℕ) (e : SExpr) → FormedExpr e → first (whole_refusals inputs bound step e) ≡ Ok tt → IsBoundedSExpr inputs.lists e
unfolding whole_refusals
whole_bounded inputs bound step e h k = expr_bounded inputs bound step 1 e h k

-- ---- steps

mutual
  step_bounded : (inputs : Inputs) (depth : ℕ) (seen bound : List ℕ) (s : Step) → FormedStep s → first (step_refusals inputs depth seen bound s) ≡ Ok tt → IsBoundedStep inputs.lists s
  step_bounded inputs depth seen bound (script.Do id at e) h k = (h.0, h.1, whole_bounded inputs bound id e h.2 (right_none (repeated id seen) (whole_refusals inputs bound id e) k))
  step_bounded inputs depth seen bound (script.Keep id at e) h k = (h.0, h.1, whole_bounded inputs bound id e h.2 (right_none (repeated id seen) (whole_refusals inputs bound id e) k))
  step_bounded inputs depth seen bound (script.Let id at var keep e) h k = (h.0, h.1, whole_bounded inputs bound id e h.3 (right_none (repeated id seen) (whole_refusals inputs bound id e) k))
  step_bounded inputs depth seen bound (script.If id at e a b) h k =
      let own = whole_refusals inputs bound id e in
      let one = steps_refusals inputs (depth + 1) (seen ++ id ∷ []) bound a in
      let two = steps_refusals inputs (depth + 1) (seen ++ id ∷ steps_numbers a) bound b in
      let four = repeated id seen ++ nested_blocks id depth ++ own ++ one in
      let l = left_none four two k in (
        h.0,
        h.1,
        whole_bounded inputs bound id e h.2 (third_none (repeated id seen) (nested_blocks id depth) own one l),
        steps_bounded inputs (depth + 1) (seen ++ id ∷ []) bound a h.4 (last_none (repeated id seen) (nested_blocks id depth) own one l),
        steps_bounded inputs (depth + 1) (seen ++ id ∷ steps_numbers a) bound b h.6 (right_none four two k),
      )
  step_bounded inputs depth seen bound (script.Each id at var keep e a) h k =
      let own = whole_refusals inputs bound id e in
      let one = steps_refusals inputs (depth + 1) (seen ++ id ∷ []) (bound ++ var ∷ []) a in (
        h.0,
        h.1,
        whole_bounded inputs bound id e h.3 (third_none (repeated id seen) (nested_blocks id depth) own one k),
        steps_bounded inputs (depth + 1) (seen ++ id ∷ []) (bound ++ var ∷ []) a h.5 (last_none (repeated id seen) (nested_blocks id depth) own one k),
      )
  step_bounded inputs depth seen bound (script.Over id at var input a) h k =
      let own = list_refusals inputs id input in
      let one = steps_refusals inputs (depth + 1) (seen ++ id ∷ []) (bound ++ var ∷ []) a in
      (h.0, h.1, steps_bounded inputs (depth + 1) (seen ++ id ∷ []) (bound ++ var ∷ []) a h.5 (last_none (repeated id seen) (nested_blocks id depth) own one k))

  steps_bounded : (inputs : Inputs) (depth : ℕ) (seen bound : List ℕ) (ss : Steps) → FormedSteps ss → first (steps_refusals inputs depth seen bound ss) ≡ Ok tt → AreBoundedSteps inputs.lists ss
  steps_bounded inputs depth seen bound script.NoSteps h k = tt
  steps_bounded inputs depth seen bound (script.MoreSteps s ss) h k =
      let one = step_refusals inputs depth seen bound s in
      let more = steps_refusals inputs depth (seen ++ step_numbers s) (bound ++ step_lets s) ss in (
        step_bounded inputs depth seen bound s h.0 (left_none one more k),
        steps_bounded inputs depth (seen ++ step_numbers s) (bound ++ step_lets s) ss h.1 (right_none one more k),
      )

-- a valid script
pub script_bounded : (s : Script) → FormedSteps s.body → verdict s ≡ Ok tt → AreBoundedSteps s.lists s.body
script_bounded s h valid = steps_bounded (inputs_of s) 1 [] [] s.body h valid

-- ---- inputs

by_recursion : (vs : List Value) → ArePrimitive vs → AllByRecursion IsPrimitive vs
by_recursion [] h = tt
by_recursion (v ∷ vs) h = (fitting_primitive (out-Value v) h.0, by_recursion vs h.1)

input_fits : (is_list : Bool) (v : Value-F Value) → form_items v ≤ 1000 → formed.input_form is_list v → given.IsInputForm is_list v
input_fits true (Value-F.List items) few h = (omega (arith, few), All-from_recursion IsPrimitive items (by_recursion items h))
input_fits true _ few h = absurd h
input_fits false v few h = fitting_primitive v h

-- a list among values has at most the items of all lists
items_within : (vs : List Value) (number : ℕ) (v : Value) → slice_get vs number ≡ Some v → form_items (out-Value v) ≤ count_items vs
items_within [] number v is = absurd cc
items_within (w ∷ ws) zero v is =
    let same : w ≡ v = (cc) in subst (λ x. form_items (out-Value x) ≤ form_items (out-Value w) + count_items ws) same (omega arith)
items_within (w ∷ ws) (suc number) v is = omega (arith, items_within ws number v is)

pub inputs_fit : (s : Script) (values : List Value) → formed.AreInputs s values → given.AreInputs s.lists values
inputs_fit s values h number v is = input_fits (has number s.lists) (out-Value v) (omega (arith, h.items, items_within values number v is)) (h.each number v is)
