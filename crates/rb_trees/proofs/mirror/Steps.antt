-- What the mirror of each form of a step is.
use Rattle.std.proofs.Common.{◌≡◌, ℕ, List, [], ◌∷◌, Bool, map, ap, sym, ◌∙◌, refl}
use Rattle.rb_trees.specs.declared.scripts.SExpr as expr
use Rattle.rb_trees.specs.declared.scripts.Step as tree
use Rattle.rb_trees.specs.declared.scripts.StepForm.TheVariants as form
use Rattle.rb_trees.specs.declared.scripts.StepForm.TheOpen.{StepForm-F}
use Rattle.rb_trees.specs.declared.scripts.StepForm.TheFolds.{fold-Step, fold_out-Step, fold-roll-StepForm}
use Rattle.rb_trees.specs.mirror.Scripts.{Step, Do, Keep, Let, If, Each, Over, MoreSteps, steps_from, step_form_step, step_step, mirror_step, mirror_step_form, mirror_steps, mirror_sexpr}

pub at_Step : (t : tree.Step) → mirror_step t ≡ mirror_step_form t.form t.id t.at
unfolding mirror_step mirror_step_form
at_Step t = fold_out-Step (ℕ → ℕ → Step) Step step_form_step step_step t

pub steps_lists : (ts : List tree.Step) → steps_from (map (fold-Step (ℕ → ℕ → Step) Step step_form_step step_step) ts) ≡ mirror_steps ts
unfolding mirror_step
steps_lists [] = refl
steps_lists (t ∷ ts) = ap (MoreSteps (mirror_step t)) (steps_lists ts)

pub form_Do : (e : expr.SExpr) (id : ℕ) (at : ℕ) → mirror_step_form (form.Do e) id at ≡ Do id at (mirror_sexpr e)
unfolding mirror_step_form
form_Do e id at = ap (λ f. mirror_step_form f id at) (sym (form.rolls-Do e)) ∙ ap (λ f. f id at) (fold-roll-StepForm (ℕ → ℕ → Step) Step step_form_step step_step (StepForm-F.Do e))

pub form_Keep : (e : expr.SExpr) (id : ℕ) (at : ℕ) → mirror_step_form (form.Keep e) id at ≡ Keep id at (mirror_sexpr e)
unfolding mirror_step_form
form_Keep e id at = ap (λ f. mirror_step_form f id at) (sym (form.rolls-Keep e)) ∙ ap (λ f. f id at) (fold-roll-StepForm (ℕ → ℕ → Step) Step step_form_step step_step (StepForm-F.Keep e))

pub form_Let : (var : ℕ) (keep : Bool) (e : expr.SExpr) (id : ℕ) (at : ℕ) → mirror_step_form (form.Let var keep e) id at ≡ Let id at var keep (mirror_sexpr e)
unfolding mirror_step_form
form_Let var keep e id at = ap (λ f. mirror_step_form f id at) (sym (form.rolls-Let var keep e)) ∙ ap (λ f. f id at) (fold-roll-StepForm (ℕ → ℕ → Step) Step step_form_step step_step (StepForm-F.Let var keep e))

pub form_If : (e : expr.SExpr) (a : List tree.Step) (b : List tree.Step) (id : ℕ) (at : ℕ) → mirror_step_form (form.If e a b) id at ≡ If id at (mirror_sexpr e) (mirror_steps a) (mirror_steps b)
unfolding mirror_step_form mirror_step
form_If e a b id at = ap (λ f. mirror_step_form f id at) (sym (form.rolls-If e a b)) ∙ ap (λ f. f id at) (fold-roll-StepForm (ℕ → ℕ → Step) Step step_form_step step_step (StepForm-F.If e a b)) ∙ ap (λ x. If id at (mirror_sexpr e) x (steps_from (map (fold-Step (ℕ → ℕ → Step) Step step_form_step step_step) b))) (steps_lists a) ∙ ap (λ x. If id at (mirror_sexpr e) (mirror_steps a) x) (steps_lists b)

pub form_Each : (var : ℕ) (keep : Bool) (e : expr.SExpr) (a : List tree.Step) (id : ℕ) (at : ℕ) → mirror_step_form (form.Each var keep e a) id at ≡ Each id at var keep (mirror_sexpr e) (mirror_steps a)
unfolding mirror_step_form mirror_step
form_Each var keep e a id at = ap (λ f. mirror_step_form f id at) (sym (form.rolls-Each var keep e a)) ∙ ap (λ f. f id at) (fold-roll-StepForm (ℕ → ℕ → Step) Step step_form_step step_step (StepForm-F.Each var keep e a)) ∙ ap (λ x. Each id at var keep (mirror_sexpr e) x) (steps_lists a)

pub form_Over : (var input : ℕ) (a : List tree.Step) (id : ℕ) (at : ℕ) → mirror_step_form (form.Over var input a) id at ≡ Over id at var input (mirror_steps a)
unfolding mirror_step_form mirror_step
form_Over var input a id at = ap (λ f. mirror_step_form f id at) (sym (form.rolls-Over var input a)) ∙ ap (λ f. f id at) (fold-roll-StepForm (ℕ → ℕ → Step) Step step_form_step step_step (StepForm-F.Over var input a)) ∙ ap (λ x. Over id at var input x) (steps_lists a)

pub ruleset steps = (at_Step, form_Do, form_Keep, form_Let, form_If, form_Each, form_Over)
