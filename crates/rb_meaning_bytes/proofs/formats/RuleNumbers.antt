-- The number of a rule that a script breaks is one that refusals of its version have, if the script was read from bytes.
use Rattle.std.proofs.Common.{◌≡◌, ℕ, zero, suc, ◌+◌, ◌<◌, Bool, true, false, List, [], ◌∷◌, ◌++◌, Err, refl, ap, sym, ◌∙◌, arith}
use Rattle.std.specs.Prelude.{nat_lt, not}
use Rattle.std.proofs.lemmas.Bool.{lt-ltb, le-ltb}
use Rattle.rb_trees.specs.declared.validity.ScriptRefusal.{ScriptRefusal}
use Rattle.rb_trees.specs.declared.validity.ScriptRefusal.TheVariants.{UnknownVariable, UnknownInput, StepRepeated, TooDeep, WrongInput}
use Rattle.rb_trees.specs.declared.versions.Version.{Version}
use Rattle.rb_trees.specs.declared.versions.Version.TheVariants.{One, Two}
use Rattle.rb_trees.specs.mirror.Scripts as tree
use Rattle.rb_trees.specs.mirror.Scripts.{SExpr, SExprs, Step, Steps, Script}
use Rattle.rb_trees.specs.Validity.{Inputs, inputs_of, unknown_input, input_refusals, list_refusals, has, when, first, repeated, nested_exprs, nested_blocks, expr_refusals, exprs_refusals, whole_refusals, step_numbers, steps_numbers, step_lets, step_refusals, steps_refusals, verdict}
use Rattle.rb_meaning_bytes.specs.formats.Refusals.{is_refusal_number}
use Rattle.rb_meaning_bytes.specs.formats.FormedScripts.{Within, AllWithin, WholeWithin, StepWithin, StepsWithin, IsWithinLimits}
use Rattle.rb_meaning_bytes.specs.formats.ScriptPayloads.{Suits, number_of}
use Rattle.rb_meaning_bytes.proofs.formats.OnlySteps.{StepSuits, BlockSuits, if_suits, each_suits, over_suits, more_suits}
use Rattle.rb_meaning_bytes.proofs.formats.ScriptsSpelled.{block_suits}

abbrev lacks_lists : Version → Bool
lacks_lists One = true
lacks_lists Two = false

-- whether a refusal has no number in the version: that of a script that can't have been read
abbrev is_unnumbered : Version → ScriptRefusal → Bool
is_unnumbered version (UnknownVariable step) = false
is_unnumbered version (UnknownInput step) = false
is_unnumbered version (StepRepeated step) = false
is_unnumbered version (TooDeep step) = true
is_unnumbered version (WrongInput step) = lacks_lists version

-- inputs that a script of the version may have
abbrev Plain : Version → Inputs → Type 0
Plain One inputs = inputs.lists ≡ []
Plain Two inputs = Unit {0}

-- each has one
abbrev Numbered : Version → List ScriptRefusal → Type 0
Numbered version [] = Unit {0}
Numbered version (r ∷ rs) = (is_unnumbered version r ≡ false) × Numbered version rs

both : (version : Version) (xs ys : List ScriptRefusal) → Numbered version xs → Numbered version ys → Numbered version (xs ++ ys)
both version [] ys h k = k
both version (x ∷ xs) ys h k = (h.0, both version xs ys h.1 k)

told : (version : Version) (b : Bool) (r : ScriptRefusal) → is_unnumbered version r ≡ false → Numbered version (when b r)
told version true r h = (h, tt)
told version false r h = tt

none : (version : Version) (b : Bool) (r : ScriptRefusal) → b ≡ false → Numbered version (when b r)
none version true r h = absurd cc
none version false r h = tt

none_not : (version : Version) (b : Bool) (r : ScriptRefusal) → b ≡ true → Numbered version (when (not b) r)
none_not version true r h = tt
none_not version false r h = absurd cc

-- In version 1 no input is a list.
input_numbered : (version : Version) (inputs : Inputs) (step i : ℕ) → Plain version inputs → Numbered version (input_refusals inputs step i)
input_numbered One inputs step i h =
    both One (unknown_input inputs step i) (when (has i inputs.lists) (WrongInput step)) (told One (not (nat_lt i inputs.count)) (UnknownInput step) refl) (none One (has i inputs.lists) (WrongInput step) (ap (has i) h))
input_numbered Two inputs step i h =
    both Two (unknown_input inputs step i) (when (has i inputs.lists) (WrongInput step)) (told Two (not (nat_lt i inputs.count)) (UnknownInput step) refl) (told Two (has i inputs.lists) (WrongInput step) refl)

-- In version 1 no step goes through one.
list_numbered : (version : Version) (inputs : Inputs) (id at var i : ℕ) (a : Steps) → StepSuits version (tree.Over id at var i a) → Numbered version (list_refusals inputs id i)
list_numbered One inputs id at var i a h = absurd h
list_numbered Two inputs id at var i a h =
    both Two (unknown_input inputs id i) (when (not (has i inputs.lists)) (WrongInput id)) (told Two (not (nat_lt i inputs.count)) (UnknownInput id) refl) (told Two (not (has i inputs.lists)) (WrongInput id) refl)

module _ (version : Version) (inputs : Inputs) (plain : Plain version inputs) where
  nested_none : (step n depth : ℕ) → suc n + depth ≡ 257 → Numbered version (nested_exprs step depth)
  nested_none step n depth p = none version (nat_lt 256 depth) (TooDeep step) (le-ltb 256 depth (omega arith))

  mutual
    expr_numbered : (bound : List ℕ) (step n depth : ℕ) (e : SExpr) → n + depth ≡ 257 → Within n e → Numbered version (expr_refusals inputs bound step depth e)
    expr_numbered bound step zero depth e p h = absurd h
    expr_numbered bound step (suc n) depth (tree.Lit v) p h = nested_none step n depth p
    expr_numbered bound step (suc n) depth (tree.Input i) p h =
        both version (nested_exprs step depth) (input_refusals inputs step i) (nested_none step n depth p) (input_numbered version inputs step i plain)
    expr_numbered bound step (suc n) depth (tree.Var i) p h =
        both version (nested_exprs step depth) (when (not (has i bound)) (UnknownVariable step)) (nested_none step n depth p) (told version (not (has i bound)) (UnknownVariable step) refl)
    expr_numbered bound step (suc n) depth tree.Root p h = nested_none step n depth p
    expr_numbered bound step (suc n) depth (tree.Unary op at a) p h =
        both version (nested_exprs step depth) (expr_refusals inputs bound step (depth + 1) a) (nested_none step n depth p) (expr_numbered bound step n (depth + 1) a (omega arith) h)
    expr_numbered bound step (suc n) depth (tree.Binary op at a b) p h =
        both version (nested_exprs step depth ++ expr_refusals inputs bound step (depth + 1) a) (expr_refusals inputs bound step (depth + 1) b)
        (both version (nested_exprs step depth) (expr_refusals inputs bound step (depth + 1) a) (nested_none step n depth p) (expr_numbered bound step n (depth + 1) a (omega arith) h.0))
        (expr_numbered bound step n (depth + 1) b (omega arith) h.1)
    expr_numbered bound step (suc n) depth (tree.Call at kind method target args) p h =
        both version (nested_exprs step depth ++ expr_refusals inputs bound step (depth + 1) target) (exprs_refusals inputs bound step (depth + 1) args)
        (both version (nested_exprs step depth) (expr_refusals inputs bound step (depth + 1) target) (nested_none step n depth p) (expr_numbered bound step n (depth + 1) target (omega arith) h.0))
        (exprs_numbered bound step n (depth + 1) args (omega arith) h.1)

    exprs_numbered : (bound : List ℕ) (step n depth : ℕ) (es : SExprs) → n + depth ≡ 257 → AllWithin n es → Numbered version (exprs_refusals inputs bound step depth es)
    exprs_numbered bound step n depth tree.NoSExprs p h = tt
    exprs_numbered bound step n depth (tree.MoreSExprs e es) p h =
        both version (expr_refusals inputs bound step depth e) (exprs_refusals inputs bound step depth es) (expr_numbered bound step n depth e p h.0) (exprs_numbered bound step n depth es p h.1)

  whole_numbered : (bound : List ℕ) (step : ℕ) (e : SExpr) → WholeWithin e → Numbered version (whole_refusals inputs bound step e)
  unfolding whole_refusals WholeWithin
  whole_numbered bound step e h = expr_numbered bound step 256 1 e refl h

  -- what stands before the blocks of a step
  nested_numbered : (depth id : ℕ) (seen : List ℕ) → depth < 64 → Numbered version (repeated id seen ++ nested_blocks id depth)
  nested_numbered depth id seen lt =
      both version (repeated id seen) (nested_blocks id depth) (told version (has id seen) (StepRepeated id) refl) (none_not version (nat_lt depth 64) (TooDeep id) (lt-ltb depth 64 lt))

  head_numbered : (depth id : ℕ) (seen bound : List ℕ) (e : SExpr) → depth < 64 → WholeWithin e → Numbered version (repeated id seen ++ nested_blocks id depth ++ whole_refusals inputs bound id e)
  head_numbered depth id seen bound e lt h = both version (repeated id seen ++ nested_blocks id depth) (whole_refusals inputs bound id e) (nested_numbered depth id seen lt) (whole_numbered bound id e h)

  plain_numbered : (id : ℕ) (seen bound : List ℕ) (e : SExpr) → WholeWithin e → Numbered version (repeated id seen ++ whole_refusals inputs bound id e)
  plain_numbered id seen bound e h = both version (repeated id seen) (whole_refusals inputs bound id e) (told version (has id seen) (StepRepeated id) refl) (whole_numbered bound id e h)

  mutual
    step_numbered : (n depth : ℕ) (seen bound : List ℕ) (s : Step) → n + depth ≡ 64 → StepWithin n s → StepSuits version s → Numbered version (step_refusals inputs depth seen bound s)
    step_numbered n depth seen bound (tree.Do id at e) p h o = plain_numbered id seen bound e h
    step_numbered n depth seen bound (tree.Keep id at e) p h o = plain_numbered id seen bound e h
    step_numbered n depth seen bound (tree.Let id at var keep e) p h o = plain_numbered id seen bound e h
    step_numbered zero depth seen bound (tree.If id at e a b) p h o = absurd h
    step_numbered (suc n) depth seen bound (tree.If id at e a b) p h o =
        let suited = if_suits version id at e a b o in
        let one = steps_refusals inputs (depth + 1) (seen ++ id ∷ []) bound a in
        let two = steps_refusals inputs (depth + 1) (seen ++ id ∷ steps_numbers a) bound b in
        let front = repeated id seen ++ nested_blocks id depth ++ whole_refusals inputs bound id e in
        both version (front ++ one) two
        (both version front one (head_numbered depth id seen bound e (omega arith) h.0) (steps_numbered n (depth + 1) (seen ++ id ∷ []) bound a (omega arith) h.1 suited.0))
        (steps_numbered n (depth + 1) (seen ++ id ∷ steps_numbers a) bound b (omega arith) h.2 suited.1)
    step_numbered zero depth seen bound (tree.Each id at var keep e a) p h o = absurd h
    step_numbered (suc n) depth seen bound (tree.Each id at var keep e a) p h o =
        both version (repeated id seen ++ nested_blocks id depth ++ whole_refusals inputs bound id e) (steps_refusals inputs (depth + 1) (seen ++ id ∷ []) (bound ++ var ∷ []) a)
        (head_numbered depth id seen bound e (omega arith) h.0)
        (steps_numbered n (depth + 1) (seen ++ id ∷ []) (bound ++ var ∷ []) a (omega arith) h.1 (each_suits version id at var keep e a o))
    step_numbered zero depth seen bound (tree.Over id at var i a) p h o = absurd h
    step_numbered (suc n) depth seen bound (tree.Over id at var i a) p h o =
        let front = repeated id seen ++ nested_blocks id depth in
        both version (front ++ list_refusals inputs id i) (steps_refusals inputs (depth + 1) (seen ++ id ∷ []) (bound ++ var ∷ []) a)
        (both version front (list_refusals inputs id i) (nested_numbered depth id seen (omega arith)) (list_numbered version inputs id at var i a o))
        (steps_numbered n (depth + 1) (seen ++ id ∷ []) (bound ++ var ∷ []) a (omega arith) h (over_suits version id at var i a o))

    steps_numbered : (n depth : ℕ) (seen bound : List ℕ) (ss : Steps) → n + depth ≡ 64 → StepsWithin n ss → BlockSuits version ss → Numbered version (steps_refusals inputs depth seen bound ss)
    steps_numbered n depth seen bound tree.NoSteps p h o = tt
    steps_numbered n depth seen bound (tree.MoreSteps s ss) p h o =
        let suited = more_suits version s ss o in
        both version (step_refusals inputs depth seen bound s) (steps_refusals inputs depth (seen ++ step_numbers s) (bound ++ step_lets s) ss)
        (step_numbered n depth seen bound s p h.0 suited.0) (steps_numbered n depth (seen ++ step_numbers s) (bound ++ step_lets s) ss p h.1 suited.1)

first_numbered : (version : Version) (xs : List ScriptRefusal) (r : ScriptRefusal) → Numbered version xs → first xs ≡ Err r → is_unnumbered version r ≡ false
first_numbered version [] r h e = absurd cc
first_numbered version (x ∷ xs) r h e = let same : x ≡ r = cc in ap (λ y. is_unnumbered version y) (sym same) ∙ h.0

suited_inputs : (version : Version) (s : Script) → Suits version s → Plain version (inputs_of s)
suited_inputs One s h = h.lists
suited_inputs Two s h = tt

number_told : (version : Version) (r : ScriptRefusal) → is_unnumbered version r ≡ false → is_refusal_number version (number_of r) ≡ true
number_told One (UnknownVariable step) h = refl
number_told One (UnknownInput step) h = refl
number_told One (StepRepeated step) h = refl
number_told One (TooDeep step) h = absurd cc
number_told One (WrongInput step) h = absurd cc
number_told Two (UnknownVariable step) h = refl
number_told Two (UnknownInput step) h = refl
number_told Two (StepRepeated step) h = refl
number_told Two (TooDeep step) h = absurd cc
number_told Two (WrongInput step) h = refl

-- The rule that a script of the version breaks has a number.
pub rule_number : (version : Version) (s : Script) (r : ScriptRefusal) → Suits version s → IsWithinLimits s → verdict s ≡ Err r → is_refusal_number version (number_of r) ≡ true
unfolding IsWithinLimits
rule_number version s r o h e =
    number_told version r
    (first_numbered version (steps_refusals (inputs_of s) 1 [] [] s.body) r
    (steps_numbered version (inputs_of s) (suited_inputs version s o) 63 1 [] [] s.body refl h (block_suits version s o)) e)
