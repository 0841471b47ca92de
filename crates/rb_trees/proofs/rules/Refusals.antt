-- The first of the refusals of a part, from those of its parts.
use Rattle.std.proofs.Common.{◌≡◌, ℕ, ◌+◌, Bool, true, false, List, [], ◌∷◌, ◌++◌, refl, ap, sym, ◌∙◌, append_assoc, Ok, Err}
use Rattle.std.specs.Prelude.{nat_lt}
use Rattle.std.proofs.lemmas.Grind.{common_steps}
use Rattle.rb_trees.specs.ScriptLimits.{most_exprs}
use Rattle.rb_trees.specs.declared.scripts.Step as rust
use Rattle.rb_trees.specs.declared.scripts.StepForm.{StepForm}
use Rattle.rb_trees.specs.declared.scripts.StepForm.TheOpen.{StepForm-F}
use Rattle.rb_trees.specs.declared.scripts.StepForm.TheFolds.{fold_out-StepForm}
use Rattle.rb_trees.specs.declared.validity.ScriptRefusal.{ScriptRefusal}
use Rattle.rb_trees.specs.declared.validity.ScriptRefusal.TheVariants.{TooDeep, StepRepeated}
use Rattle.rb_trees.specs.mirror.Scripts.{SExpr, Lit, Input, Var, Root, Unary, Binary, Call, Step, Do, Keep, Let, If, Each, Over, step_form_step, step_step, mirror_step, mirror_step_form, mirror_steps}
use Rattle.rb_trees.specs.Validity.{Inputs, has, when, first, expr_refusals, step_numbers, steps_numbers, steps_lets, step_lets, step_refusals}
use Rattle.rb_trees.proofs.mirror.SExprs.{sexprs}
use Rattle.rb_trees.proofs.mirror.Steps.{at_Step, steps as mirrored_steps}
use Rattle.rb_trees.proofs.rules.Scopes.{scopes}

pub first-append_ok : (xs ys : List ScriptRefusal) → first xs ≡ Ok tt → first (xs ++ ys) ≡ first ys
first-append_ok [] ys h = refl
first-append_ok (x ∷ xs) ys h = cc

pub first-append_err : (xs ys : List ScriptRefusal) (r : ScriptRefusal) → first xs ≡ Err r → first (xs ++ ys) ≡ Err r
first-append_err [] ys r h = cc
first-append_err (x ∷ xs) ys r h = h

told : (b : Bool) (r : ScriptRefusal) → b ≡ true → first (when b r) ≡ Err r
told true r h = refl
told false r h = cc

-- ---- expressions

pub too_deep : (inputs : Inputs) (bound : List ℕ) (step depth : ℕ) (e : SExpr) → nat_lt most_exprs depth ≡ true → first (expr_refusals inputs bound step depth e) ≡ Err (TooDeep step)
too_deep inputs bound step depth (Lit v) h = told _ (TooDeep step) h
too_deep inputs bound step depth (Input n) h = first-append_err _ _ (TooDeep step) (told _ (TooDeep step) h)
too_deep inputs bound step depth (Var n) h = first-append_err _ _ (TooDeep step) (told _ (TooDeep step) h)
too_deep inputs bound step depth Root h = told _ (TooDeep step) h
too_deep inputs bound step depth (Unary op at a) h = first-append_err _ _ (TooDeep step) (told _ (TooDeep step) h)
too_deep inputs bound step depth (Binary op at a b) h = first-append_err _ _ (TooDeep step) (first-append_err _ _ (TooDeep step) (told _ (TooDeep step) h))
too_deep inputs bound step depth (Call at kind method target args) h = first-append_err _ _ (TooDeep step) (first-append_err _ _ (TooDeep step) (told _ (TooDeep step) h))

pub ruleset exprs = (too_deep, sexprs, first-append_ok, first-append_err, append_assoc, common_steps)

-- ---- steps

pub numbers-append : (xs ys : List rust.Step) → steps_numbers (mirror_steps (xs ++ ys)) ≡ steps_numbers (mirror_steps xs) ++ steps_numbers (mirror_steps ys)
numbers-append [] ys = refl
numbers-append (x ∷ xs) ys = ap (λ l. step_numbers (mirror_step x) ++ l) (numbers-append xs ys) ∙ sym (append_assoc (step_numbers (mirror_step x)) (steps_numbers (mirror_steps xs)) (steps_numbers (mirror_steps ys)))

pub lets-append : (xs ys : List rust.Step) → steps_lets (mirror_steps (xs ++ ys)) ≡ steps_lets (mirror_steps xs) ++ steps_lets (mirror_steps ys)
lets-append [] ys = refl
lets-append (x ∷ xs) ys = ap (λ l. step_lets (mirror_step x) ++ l) (lets-append xs ys) ∙ sym (append_assoc (step_lets (mirror_step x)) (steps_lets (mirror_steps xs)) (steps_lets (mirror_steps ys)))

-- the number of a step
abbrev pub number_of : Step → ℕ
number_of (Do id at e) = id
number_of (Keep id at e) = id
number_of (Let id at var keep e) = id
number_of (If id at e a b) = id
number_of (Each id at var keep e a) = id
number_of (Over id at var input a) = id

four : (a b c d : List ScriptRefusal) (r : ScriptRefusal) → first a ≡ Err r → first (a ++ b ++ c ++ d) ≡ Err r
four a b c d r h = first-append_err _ _ r (first-append_err _ _ r (first-append_err _ _ r h))

repeated_in : (inputs : Inputs) (depth : ℕ) (seen bound : List ℕ) (s : Step) → has (number_of s) seen ≡ true → first (step_refusals inputs depth seen bound s) ≡ Err (StepRepeated (number_of s))
repeated_in inputs depth seen bound (Do id at e) h = first-append_err _ _ (StepRepeated id) (told _ (StepRepeated id) h)
repeated_in inputs depth seen bound (Keep id at e) h = first-append_err _ _ (StepRepeated id) (told _ (StepRepeated id) h)
repeated_in inputs depth seen bound (Let id at var keep e) h = first-append_err _ _ (StepRepeated id) (told _ (StepRepeated id) h)
repeated_in inputs depth seen bound (If id at e a b) h = first-append_err _ _ (StepRepeated id) (four _ _ _ _ (StepRepeated id) (told _ (StepRepeated id) h))
repeated_in inputs depth seen bound (Each id at var keep e a) h = four _ _ _ _ (StepRepeated id) (told _ (StepRepeated id) h)
repeated_in inputs depth seen bound (Over id at var input a) h = four _ _ _ _ (StepRepeated id) (told _ (StepRepeated id) h)

layer_number : (layer : StepForm-F (ℕ → ℕ → Step) Step) (id at : ℕ) → number_of (step_form_step layer id at) ≡ id
layer_number (StepForm-F.Do e) id at = refl
layer_number (StepForm-F.Keep e) id at = refl
layer_number (StepForm-F.Let var keep e) id at = refl
layer_number (StepForm-F.If e a b) id at = refl
layer_number (StepForm-F.Each var keep e a) id at = refl
layer_number (StepForm-F.Over var input a) id at = refl

form_number : (f : StepForm) (id at : ℕ) → number_of (mirror_step_form f id at) ≡ id
unfolding mirror_step_form
form_number f id at = ap (λ g. number_of (g id at)) (fold_out-StepForm (ℕ → ℕ → Step) Step step_form_step step_step f) ∙ layer_number _ id at

number_is : (s : rust.Step) → number_of (mirror_step s) ≡ s.id
number_is s = ap number_of (at_Step s) ∙ form_number s.form s.id s.at

pub repeats : (inputs : Inputs) (depth : ℕ) (seen bound : List ℕ) (s : rust.Step) → has s.id seen ≡ true → first (step_refusals inputs depth seen bound (mirror_step s)) ≡ Err (StepRepeated s.id)
repeats inputs depth seen bound s h =
    repeated_in inputs depth seen bound (mirror_step s) (ap (λ n. has n seen) (number_is s) ∙ h) ∙ ap (λ n. Err (StepRepeated n)) (number_is s)

pub ruleset numbered = (repeats, common_steps)

pub ruleset steps = (mirrored_steps, scopes, first-append_ok, first-append_err, numbers-append, lets-append, append_assoc, common_steps)
