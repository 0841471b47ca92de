-- A valid script is within the limits of nesting.
use Rattle.std.proofs.Common.{◌≡◌, ℕ, zero, suc, ◌+◌, Bool, true, false, List, [], ◌∷◌, ◌++◌, Ok, refl, arith}
use Rattle.std.specs.Prelude.{nat_lt, not}
use Rattle.std.proofs.lemmas.Bool.{lt-ltb, le-ltb}
use Rattle.rb_trees.specs.declared.validity.ScriptRefusal.{ScriptRefusal}
use Rattle.rb_trees.specs.declared.validity.ScriptRefusal.TheVariants.{TooDeep}
use Rattle.rb_trees.specs.mirror.Scripts as tree
use Rattle.rb_trees.specs.mirror.Scripts.{SExpr, SExprs, Step, Steps, Script}
use Rattle.rb_trees.specs.Validity.{Inputs, inputs_of, list_refusals, when, first, repeated, nested_exprs, nested_blocks, step_numbers, steps_numbers, step_lets, expr_refusals, exprs_refusals, whole_refusals, step_refusals, steps_refusals, verdict}
use Rattle.rb_trees.proofs.rules.Refusals.{too_deep}
use Rattle.rb_meaning_bytes.specs.formats.FormedScripts.{Within, AllWithin, WholeWithin, StepWithin, StepsWithin, IsWithinLimits}

left_ok : (xs ys : List ScriptRefusal) → first (xs ++ ys) ≡ Ok tt → first xs ≡ Ok tt
left_ok [] ys h = refl
left_ok (x ∷ xs) ys h = absurd cc

right_ok : (xs ys : List ScriptRefusal) → first (xs ++ ys) ≡ Ok tt → first ys ≡ Ok tt
right_ok [] ys h = h
right_ok (x ∷ xs) ys h = absurd cc

mutual
  expr_within : (inputs : Inputs) (bound : List ℕ) (step n depth : ℕ) (e : SExpr) → n + depth ≡ 257 → first (expr_refusals inputs bound step depth e) ≡ Ok tt → Within n e
  expr_within inputs bound step zero depth e p h = let t = too_deep inputs bound step depth e (lt-ltb 256 depth (omega arith)) in absurd cc
  expr_within inputs bound step (suc n) depth (tree.Lit v) p h = tt
  expr_within inputs bound step (suc n) depth (tree.Input i) p h = tt
  expr_within inputs bound step (suc n) depth (tree.Var i) p h = tt
  expr_within inputs bound step (suc n) depth tree.Root p h = tt
  expr_within inputs bound step (suc n) depth (tree.Unary op at a) p h = expr_within inputs bound step n (depth + 1) a (omega arith) (right_ok (nested_exprs step depth) (expr_refusals inputs bound step (depth + 1) a) h)
  expr_within inputs bound step (suc n) depth (tree.Binary op at a b) p h =
      let one = nested_exprs step depth in
      let two = expr_refusals inputs bound step (depth + 1) a in
      let three = expr_refusals inputs bound step (depth + 1) b in (
        expr_within inputs bound step n (depth + 1) a (omega arith) (right_ok one two (left_ok (one ++ two) three h)),
        expr_within inputs bound step n (depth + 1) b (omega arith) (right_ok (one ++ two) three h),
      )
  expr_within inputs bound step (suc n) depth (tree.Call at kind method target args) p h =
      let one = nested_exprs step depth in
      let two = expr_refusals inputs bound step (depth + 1) target in
      let three = exprs_refusals inputs bound step (depth + 1) args in (
        expr_within inputs bound step n (depth + 1) target (omega arith) (right_ok one two (left_ok (one ++ two) three h)),
        exprs_within inputs bound step n (depth + 1) args (omega arith) (right_ok (one ++ two) three h),
      )

  exprs_within : (inputs : Inputs) (bound : List ℕ) (step n depth : ℕ) (es : SExprs) → n + depth ≡ 257 → first (exprs_refusals inputs bound step depth es) ≡ Ok tt → AllWithin n es
  exprs_within inputs bound step n depth tree.NoSExprs p h = tt
  exprs_within inputs bound step n depth (tree.MoreSExprs e es) p h = (
    expr_within inputs bound step n depth e p (left_ok (expr_refusals inputs bound step depth e) (exprs_refusals inputs bound step depth es) h),
    exprs_within inputs bound step n depth es p (right_ok (expr_refusals inputs bound step depth e) (exprs_refusals inputs bound step depth es) h),
  )

whole_within : (inputs : Inputs) (bound : List ℕ) (step : ℕ) (e : SExpr) → first (whole_refusals inputs bound step e) ≡ Ok tt → WholeWithin e
unfolding whole_refusals WholeWithin
whole_within inputs bound step e h = expr_within inputs bound step 256 1 e refl h

too_nested : (b : Bool) (r : ScriptRefusal) → b ≡ false → first (when (not b) r) ≡ Ok tt → ⊥
too_nested true r h k = absurd cc
too_nested false r h k = absurd cc

-- the parts of a step with blocks, from the left
second_of_4 : (a b c d : List ScriptRefusal) → first (a ++ b ++ c ++ d) ≡ Ok tt → first b ≡ Ok tt
second_of_4 a b c d h = right_ok a b (left_ok (a ++ b) c (left_ok (a ++ b ++ c) d h))

third_of_4 : (a b c d : List ScriptRefusal) → first (a ++ b ++ c ++ d) ≡ Ok tt → first c ≡ Ok tt
third_of_4 a b c d h = right_ok (a ++ b) c (left_ok (a ++ b ++ c) d h)

fourth_of_4 : (a b c d : List ScriptRefusal) → first (a ++ b ++ c ++ d) ≡ Ok tt → first d ≡ Ok tt
fourth_of_4 a b c d h = right_ok (a ++ b ++ c) d h

mutual
  step_within : (inputs : Inputs) (n depth : ℕ) (seen bound : List ℕ) (s : Step) → n + depth ≡ 64 → first (step_refusals inputs depth seen bound s) ≡ Ok tt → StepWithin n s
  step_within inputs n depth seen bound (tree.Do id at e) p h = whole_within inputs bound id e (right_ok (repeated id seen) (whole_refusals inputs bound id e) h)
  step_within inputs n depth seen bound (tree.Keep id at e) p h = whole_within inputs bound id e (right_ok (repeated id seen) (whole_refusals inputs bound id e) h)
  step_within inputs n depth seen bound (tree.Let id at var keep e) p h = whole_within inputs bound id e (right_ok (repeated id seen) (whole_refusals inputs bound id e) h)
  step_within inputs zero depth seen bound (tree.If id at e a b) p h =
      let four = repeated id seen ++ nested_blocks id depth ++ whole_refusals inputs bound id e ++ steps_refusals inputs (depth + 1) (seen ++ id ∷ []) bound a in
      too_nested (nat_lt depth 64) (TooDeep id) (le-ltb depth 64 (omega arith)) (second_of_4 (repeated id seen) (nested_blocks id depth) (whole_refusals inputs bound id e) _
      (left_ok four (steps_refusals inputs (depth + 1) (seen ++ id ∷ steps_numbers a) bound b) h))
  step_within inputs (suc n) depth seen bound (tree.If id at e a b) p h =
      let one = steps_refusals inputs (depth + 1) (seen ++ id ∷ []) bound a in
      let two = steps_refusals inputs (depth + 1) (seen ++ id ∷ steps_numbers a) bound b in
      let four = repeated id seen ++ nested_blocks id depth ++ whole_refusals inputs bound id e ++ one in
      let k = left_ok four two h in (
        whole_within inputs bound id e (third_of_4 (repeated id seen) (nested_blocks id depth) (whole_refusals inputs bound id e) one k),
        steps_within inputs n (depth + 1) (seen ++ id ∷ []) bound a (omega arith) (fourth_of_4 (repeated id seen) (nested_blocks id depth) (whole_refusals inputs bound id e) one k),
        steps_within inputs n (depth + 1) (seen ++ id ∷ steps_numbers a) bound b (omega arith) (right_ok four two h),
      )
  step_within inputs zero depth seen bound (tree.Each id at var keep e a) p h =
      let one = steps_refusals inputs (depth + 1) (seen ++ id ∷ []) (bound ++ var ∷ []) a in
      too_nested (nat_lt depth 64) (TooDeep id) (le-ltb depth 64 (omega arith)) (second_of_4 (repeated id seen) (nested_blocks id depth) (whole_refusals inputs bound id e) one h)
  step_within inputs (suc n) depth seen bound (tree.Each id at var keep e a) p h =
      let one = steps_refusals inputs (depth + 1) (seen ++ id ∷ []) (bound ++ var ∷ []) a in (
        whole_within inputs bound id e (third_of_4 (repeated id seen) (nested_blocks id depth) (whole_refusals inputs bound id e) one h),
        steps_within inputs n (depth + 1) (seen ++ id ∷ []) (bound ++ var ∷ []) a (omega arith) (fourth_of_4 (repeated id seen) (nested_blocks id depth) (whole_refusals inputs bound id e) one h),
      )
  step_within inputs zero depth seen bound (tree.Over id at var input a) p h =
      let one = steps_refusals inputs (depth + 1) (seen ++ id ∷ []) (bound ++ var ∷ []) a in
      too_nested (nat_lt depth 64) (TooDeep id) (le-ltb depth 64 (omega arith)) (second_of_4 (repeated id seen) (nested_blocks id depth) (list_refusals inputs id input) one h)
  step_within inputs (suc n) depth seen bound (tree.Over id at var input a) p h =
      let one = steps_refusals inputs (depth + 1) (seen ++ id ∷ []) (bound ++ var ∷ []) a in
      steps_within inputs n (depth + 1) (seen ++ id ∷ []) (bound ++ var ∷ []) a (omega arith) (fourth_of_4 (repeated id seen) (nested_blocks id depth) (list_refusals inputs id input) one h)

  steps_within : (inputs : Inputs) (n depth : ℕ) (seen bound : List ℕ) (ss : Steps) → n + depth ≡ 64 → first (steps_refusals inputs depth seen bound ss) ≡ Ok tt → StepsWithin n ss
  steps_within inputs n depth seen bound tree.NoSteps p h = tt
  steps_within inputs n depth seen bound (tree.MoreSteps s ss) p h =
      let one = step_refusals inputs depth seen bound s in
      let two = steps_refusals inputs depth (seen ++ step_numbers s) (bound ++ step_lets s) ss in
      (step_within inputs n depth seen bound s p (left_ok one two h), steps_within inputs n depth (seen ++ step_numbers s) (bound ++ step_lets s) ss p (right_ok one two h))

-- A valid script is within the limits.
pub valid_within : (s : Script) → verdict s ≡ Ok tt → IsWithinLimits s
unfolding IsWithinLimits
valid_within s h = steps_within (inputs_of s) 63 1 [] [] s.body refl h
