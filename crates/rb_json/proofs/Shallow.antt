-- A script that is within the limits of nesting isn't refused for its depth.
use Rattle.std.proofs.Common.{◌≡◌, ◌+◌, ◌≤◌, ℕ, zero, suc, Bool, true, false, List, [], ◌∷◌, ◌++◌, Err, ap, subst, sym, arith}
use Rattle.std.specs.Prelude.{nat_lt, not}
use Rattle.std.proofs.lemmas.Bool.Decides.{nat_tests}
use Rattle.rb_trees.specs.declared.validity.ScriptRefusal.{ScriptRefusal}
use Rattle.rb_trees.specs.declared.validity.ScriptRefusal.TheVariants.{UnknownVariable, UnknownInput, StepRepeated, TooDeep, WrongInput}
use Rattle.rb_trees.specs.mirror.Scripts as tree
use Rattle.rb_trees.specs.mirror.Scripts.{SExpr, SExprs, Step, Steps, Script}
use Rattle.rb_trees.specs.Validity.{Inputs, inputs_of, input_refusals, list_refusals, unknown_input, has, when, first, repeated, nested_exprs, nested_blocks, step_numbers, steps_numbers, step_lets, expr_refusals, exprs_refusals, whole_refusals, step_refusals, steps_refusals, verdict}
use Rattle.rb_meaning_bytes.specs.formats.FormedScripts.{Within, AllWithin, WholeWithin, StepWithin, StepsWithin, IsWithinLimits}
use Rattle.rb_json.specs.Formed.{IsShallow}

abbrev AllShallow : List ScriptRefusal → Type 0
AllShallow [] = Unit {0}
AllShallow (r ∷ rs) = IsShallow r × AllShallow rs

both_shallow : (xs ys : List ScriptRefusal) → AllShallow xs → AllShallow ys → AllShallow (xs ++ ys)
both_shallow [] ys h k = k
both_shallow (x ∷ xs) ys h k = (h.0, both_shallow xs ys h.1 k)

one_shallow : (b : Bool) (r : ScriptRefusal) → IsShallow r → AllShallow (when b r)
one_shallow true r h = (h, tt)
one_shallow false r h = tt

none_shallow : (b : Bool) (r : ScriptRefusal) → b ≡ false → AllShallow (when b r)
none_shallow b r h = subst (λ b. AllShallow (when b r)) (sym h) tt

not_deep : (limit depth : ℕ) → depth ≤ limit → nat_lt limit depth ≡ false
not_deep limit depth h = grind (arith, nat_tests, h)

still_room : (depth limit : ℕ) → suc depth ≤ limit → not (nat_lt depth limit) ≡ false
still_room depth limit h = ap not (room depth limit h)
  where
    room : (depth limit : ℕ) → suc depth ≤ limit → nat_lt depth limit ≡ true
    room depth limit h = grind (arith, nat_tests, h)

first_shallow : (xs : List ScriptRefusal) (r : ScriptRefusal) → AllShallow xs → first xs ≡ Err r → IsShallow r
first_shallow [] r h is = absurd cc
first_shallow (x ∷ xs) r h is = let same : x ≡ r = cc in subst IsShallow same h.0

-- ---- expressions

nested_shallow : (step depth : ℕ) → depth ≤ 256 → AllShallow (nested_exprs step depth)
nested_shallow step depth h = none_shallow (nat_lt 256 depth) (TooDeep step) (not_deep 256 depth h)

inputs_shallow : (inputs : Inputs) (step n : ℕ) → AllShallow (input_refusals inputs step n)
inputs_shallow inputs step n =
    both_shallow (unknown_input inputs step n) (when (has n inputs.lists) (WrongInput step)) (one_shallow (not (nat_lt n inputs.count)) (UnknownInput step) tt) (one_shallow (has n inputs.lists) (WrongInput step) tt)

lists_shallow : (inputs : Inputs) (step n : ℕ) → AllShallow (list_refusals inputs step n)
lists_shallow inputs step n =
    both_shallow (unknown_input inputs step n) (when (not (has n inputs.lists)) (WrongInput step)) (one_shallow (not (nat_lt n inputs.count)) (UnknownInput step) tt)
    (one_shallow (not (has n inputs.lists)) (WrongInput step) tt)

mutual
  expr_shallow : (inputs : Inputs) (bound : List ℕ) (step depth n : ℕ) (e : SExpr) → Within n e → depth + n ≤ 257 → AllShallow (expr_refusals inputs bound step depth e)
  expr_shallow inputs bound step depth zero e within room = absurd within
  expr_shallow inputs bound step depth (suc n) (tree.Lit v) within room = nested_shallow step depth (omega (arith, room))
  expr_shallow inputs bound step depth (suc n) (tree.Input k) within room =
      both_shallow (nested_exprs step depth) (input_refusals inputs step k) (nested_shallow step depth (omega (arith, room))) (inputs_shallow inputs step k)
  expr_shallow inputs bound step depth (suc n) (tree.Var k) within room =
      both_shallow (nested_exprs step depth) (when (not (has k bound)) (UnknownVariable step)) (nested_shallow step depth (omega (arith, room))) (one_shallow (not (has k bound)) (UnknownVariable step) tt)
  expr_shallow inputs bound step depth (suc n) tree.Root within room = nested_shallow step depth (omega (arith, room))
  expr_shallow inputs bound step depth (suc n) (tree.Unary op at a) within room =
      both_shallow (nested_exprs step depth) (expr_refusals inputs bound step (depth + 1) a) (nested_shallow step depth (omega (arith, room)))
      (expr_shallow inputs bound step (depth + 1) n a within (omega (arith, room)))
  expr_shallow inputs bound step depth (suc n) (tree.Binary op at a b) within room =
      let one = nested_exprs step depth in
      let two = expr_refusals inputs bound step (depth + 1) a in
      let three = expr_refusals inputs bound step (depth + 1) b in
      both_shallow (one ++ two) three
      (both_shallow one two (nested_shallow step depth (omega (arith, room))) (expr_shallow inputs bound step (depth + 1) n a within.0 (omega (arith, room))))
      (expr_shallow inputs bound step (depth + 1) n b within.1 (omega (arith, room)))
  expr_shallow inputs bound step depth (suc n) (tree.Call at kind method target args) within room =
      let one = nested_exprs step depth in
      let two = expr_refusals inputs bound step (depth + 1) target in
      let three = exprs_refusals inputs bound step (depth + 1) args in
      both_shallow (one ++ two) three
      (both_shallow one two (nested_shallow step depth (omega (arith, room))) (expr_shallow inputs bound step (depth + 1) n target within.0 (omega (arith, room))))
      (exprs_shallow inputs bound step (depth + 1) n args within.1 (omega (arith, room)))

  exprs_shallow : (inputs : Inputs) (bound : List ℕ) (step depth n : ℕ) (es : SExprs) → AllWithin n es → depth + n ≤ 257 → AllShallow (exprs_refusals inputs bound step depth es)
  exprs_shallow inputs bound step depth n tree.NoSExprs within room = tt
  exprs_shallow inputs bound step depth n (tree.MoreSExprs e es) within room =
      both_shallow (expr_refusals inputs bound step depth e) (exprs_refusals inputs bound step depth es) (expr_shallow inputs bound step depth n e within.0 room)
      (exprs_shallow inputs bound step depth n es within.1 room)

whole_shallow : (inputs : Inputs) (bound : List ℕ) (step : ℕ) (e : SExpr) → WholeWithin e → AllShallow (whole_refusals inputs bound step e)
unfolding whole_refusals WholeWithin
whole_shallow inputs bound step e within = expr_shallow inputs bound step 1 256 e within (omega arith)

-- ---- steps

again_shallow : (id : ℕ) (seen : List ℕ) → AllShallow (repeated id seen)
again_shallow id seen = one_shallow (has id seen) (StepRepeated id) tt

blocks_shallow : (id depth : ℕ) → suc depth ≤ 64 → AllShallow (nested_blocks id depth)
blocks_shallow id depth h = none_shallow (not (nat_lt depth 64)) (TooDeep id) (still_room depth 64 h)

-- an expression behind a step's number
plain_shallow : (inputs : Inputs) (seen bound : List ℕ) (id : ℕ) (e : SExpr) → WholeWithin e → AllShallow (repeated id seen ++ whole_refusals inputs bound id e)
plain_shallow inputs seen bound id e within = both_shallow (repeated id seen) (whole_refusals inputs bound id e) (again_shallow id seen) (whole_shallow inputs bound id e within)

mutual
  step_shallow : (inputs : Inputs) (depth : ℕ) (seen bound : List ℕ) (n : ℕ) (s : Step) → StepWithin n s → depth + n ≤ 64 → AllShallow (step_refusals inputs depth seen bound s)
  step_shallow inputs depth seen bound n (tree.Do id at e) within room = plain_shallow inputs seen bound id e within
  step_shallow inputs depth seen bound n (tree.Keep id at e) within room = plain_shallow inputs seen bound id e within
  step_shallow inputs depth seen bound n (tree.Let id at var keep e) within room = plain_shallow inputs seen bound id e within
  step_shallow inputs depth seen bound zero (tree.If id at e a b) within room = absurd within
  step_shallow inputs depth seen bound (suc n) (tree.If id at e a b) within room =
      let one = repeated id seen in
      let two = nested_blocks id depth in
      let three = whole_refusals inputs bound id e in
      let four = steps_refusals inputs (depth + 1) (seen ++ id ∷ []) bound a in
      let five = steps_refusals inputs (depth + 1) (seen ++ id ∷ steps_numbers a) bound b in
      both_shallow (one ++ two ++ three ++ four) five
      (both_shallow (one ++ two ++ three) four
      (both_shallow (one ++ two) three (both_shallow one two (again_shallow id seen) (blocks_shallow id depth (omega (arith, room)))) (whole_shallow inputs bound id e within.0))
      (steps_shallow inputs (depth + 1) (seen ++ id ∷ []) bound n a within.1 (omega (arith, room))))
      (steps_shallow inputs (depth + 1) (seen ++ id ∷ steps_numbers a) bound n b within.2 (omega (arith, room)))
  step_shallow inputs depth seen bound zero (tree.Each id at var keep e a) within room = absurd within
  step_shallow inputs depth seen bound (suc n) (tree.Each id at var keep e a) within room =
      let one = repeated id seen in
      let two = nested_blocks id depth in
      let three = whole_refusals inputs bound id e in
      let four = steps_refusals inputs (depth + 1) (seen ++ id ∷ []) (bound ++ var ∷ []) a in
      both_shallow (one ++ two ++ three) four
      (both_shallow (one ++ two) three (both_shallow one two (again_shallow id seen) (blocks_shallow id depth (omega (arith, room)))) (whole_shallow inputs bound id e within.0))
      (steps_shallow inputs (depth + 1) (seen ++ id ∷ []) (bound ++ var ∷ []) n a within.1 (omega (arith, room)))
  step_shallow inputs depth seen bound zero (tree.Over id at var input a) within room = absurd within
  step_shallow inputs depth seen bound (suc n) (tree.Over id at var input a) within room =
      let one = repeated id seen in
      let two = nested_blocks id depth in
      let three = list_refusals inputs id input in
      let four = steps_refusals inputs (depth + 1) (seen ++ id ∷ []) (bound ++ var ∷ []) a in
      both_shallow (one ++ two ++ three) four
      (both_shallow (one ++ two) three (both_shallow one two (again_shallow id seen) (blocks_shallow id depth (omega (arith, room)))) (lists_shallow inputs id input))
      (steps_shallow inputs (depth + 1) (seen ++ id ∷ []) (bound ++ var ∷ []) n a within (omega (arith, room)))

  steps_shallow : (inputs : Inputs) (depth : ℕ) (seen bound : List ℕ) (n : ℕ) (ss : Steps) → StepsWithin n ss → depth + n ≤ 64 → AllShallow (steps_refusals inputs depth seen bound ss)
  steps_shallow inputs depth seen bound n tree.NoSteps within room = tt
  steps_shallow inputs depth seen bound n (tree.MoreSteps s ss) within room =
      let one = step_refusals inputs depth seen bound s in
      let more = steps_refusals inputs depth (seen ++ step_numbers s) (bound ++ step_lets s) ss in
      both_shallow one more (step_shallow inputs depth seen bound n s within.0 room) (steps_shallow inputs depth (seen ++ step_numbers s) (bound ++ step_lets s) n ss within.1 room)

blocks_within : (s : Script) → IsWithinLimits s → StepsWithin 63 s.body
unfolding IsWithinLimits
blocks_within s h = h

pub refused_shallow : (s : Script) (r : ScriptRefusal) → IsWithinLimits s → verdict s ≡ Err r → IsShallow r
refused_shallow s r within is =
    first_shallow (steps_refusals (inputs_of s) 1 [] [] s.body) r (steps_shallow (inputs_of s) 1 [] [] 63 s.body (blocks_within s within) (omega arith)) is
