-- The refusals of a step with blocks, once those before a block are none.
use Rattle.std.proofs.Common.{◌≡◌, Bor, ℕ, ◌+◌, Bool, false, List, [], ◌∷◌, ◌++◌, ap, sym, ◌∙◌, subst, append_assoc, Result, Ok, Err}
use Rattle.rb_trees.specs.declared.scripts.SExpr as rust_expr
use Rattle.rb_trees.specs.declared.scripts.Step as rust
use Rattle.rb_trees.specs.declared.scripts.StepForm.TheVariants as form
use Rattle.rb_trees.specs.declared.validity.ScriptRefusal.{ScriptRefusal}
use Rattle.rb_trees.specs.declared.validity.ScriptRefusal.TheVariants.{StepRepeated}
use Rattle.rb_trees.specs.mirror.Scripts.{If, Each, Over, Step, Steps, mirror_sexpr, mirror_step, mirror_step_form, mirror_steps}
use Rattle.rb_trees.specs.Validity.{Inputs, has, when, first, repeated, nested_blocks, whole_refusals, list_refusals, steps_numbers, steps_lets, step_refusals, steps_refusals}
use Rattle.rb_trees.proofs.mirror.Steps.{at_Step, form_If, form_Each, form_Over}
use Rattle.rb_trees.specs.declared.validity.Around.{Around}
use Rattle.rb_trees.specs.declared.validity.Around.TheVariants as s
use Rattle.rb_trees.specs.Scopes.{seen, bound}
use Rattle.rb_trees.proofs.rules.Scopes.{seen_Block, seen_Step, seen_Closed, seen_Row, bound_Block, bound_Step, bound_Closed, bound_Row}
use Rattle.rb_trees.proofs.rules.Refusals.{first-append_ok, first-append_err}

both_ok : (xs ys : List ScriptRefusal) → first xs ≡ Ok tt → first ys ≡ Ok tt → first (xs ++ ys) ≡ Ok tt
both_ok xs ys h k = first-append_ok xs ys h ∙ k

new_number : (id : ℕ) (seen : List ℕ) → has id seen ≡ false → first (repeated id seen) ≡ Ok tt
new_number id seen h = ap (λ b. first (when b (StepRepeated id))) h

-- what is left of a step with two blocks before the second; code sees its blocks as slices
pub if_gives : (inputs : Inputs) (depth : ℕ) (seen bound : List ℕ) (x : rust.Step) (e : rust_expr.SExpr) (a b : List rust.Step) → x.form ≡ form.If e a b → has x.id seen ≡ false
    → first (nested_blocks x.id depth) ≡ Ok tt → first (whole_refusals inputs bound x.id (mirror_sexpr e)) ≡ Ok tt
    → (one again two : List rust.Step) → one ≡ a → again ≡ a → two ≡ b
    → first (steps_refusals inputs (depth + 1) (seen ++ x.id ∷ []) bound (mirror_steps one)) ≡ Ok tt
    → first (step_refusals inputs depth seen bound (mirror_step x)) ≡ first (steps_refusals inputs (depth + 1) ((seen ++ x.id ∷ []) ++ steps_numbers (mirror_steps again)) bound (mirror_steps two))
if_gives inputs depth seen bound x e a b is new deep whole one again two o g t none =
    let shape : mirror_step x ≡ If x.id x.at (mirror_sexpr e) (mirror_steps a) (mirror_steps b) = at_Step x ∙ ap (λ f. mirror_step_form f x.id x.at) is ∙ form_If e a b x.id x.at in
    ap (λ y. first (step_refusals inputs depth seen bound y)) shape
    ∙ first-append_ok (repeated x.id seen ++ nested_blocks x.id depth ++ whole_refusals inputs bound x.id (mirror_sexpr e) ++ steps_refusals inputs (depth + 1) (seen ++ x.id ∷ []) bound (mirror_steps a)) _
    (both_ok (repeated x.id seen ++ nested_blocks x.id depth ++ whole_refusals inputs bound x.id (mirror_sexpr e)) _
    (both_ok (repeated x.id seen ++ nested_blocks x.id depth) _ (both_ok (repeated x.id seen) _ (new_number x.id seen new) deep) whole)
    (subst (λ l. first (steps_refusals inputs (depth + 1) (seen ++ x.id ∷ []) bound (mirror_steps l)) ≡ Ok tt) o none))
    ∙ ap (λ l. first (steps_refusals inputs (depth + 1) l bound (mirror_steps b))) (sym (append_assoc seen (x.id ∷ []) (steps_numbers (mirror_steps a))))
    ∙ ap (λ l. first (steps_refusals inputs (depth + 1) ((seen ++ x.id ∷ []) ++ steps_numbers (mirror_steps l)) bound (mirror_steps b))) (sym g)
    ∙ ap (λ l. first (steps_refusals inputs (depth + 1) ((seen ++ x.id ∷ []) ++ steps_numbers (mirror_steps again)) bound (mirror_steps l))) (sym t)

-- what is left of a step with turns before its block, where what it goes through is well
turns_give : (inputs : Inputs) (depth : ℕ) (seen bound : List ℕ) (x : rust.Step) (var : ℕ) (through : List ScriptRefusal) (a : List rust.Step)
    → step_refusals inputs depth seen bound (mirror_step x) ≡ repeated x.id seen ++ nested_blocks x.id depth ++ through ++ steps_refusals inputs (depth + 1) (seen ++ x.id ∷ []) (bound ++ var ∷ []) (mirror_steps a)
    → has x.id seen ≡ false → first (nested_blocks x.id depth) ≡ Ok tt → first through ≡ Ok tt → (one : List rust.Step) → one ≡ a
    → first (step_refusals inputs depth seen bound (mirror_step x)) ≡ first (steps_refusals inputs (depth + 1) (seen ++ x.id ∷ []) (bound ++ var ∷ []) (mirror_steps one))
turns_give inputs depth seen bound x var through a shape new deep well one o =
    ap first shape
    ∙ first-append_ok (repeated x.id seen ++ nested_blocks x.id depth ++ through) _
    (both_ok (repeated x.id seen ++ nested_blocks x.id depth) _ (both_ok (repeated x.id seen) _ (new_number x.id seen new) deep) well)
    ∙ ap (λ l. first (steps_refusals inputs (depth + 1) (seen ++ x.id ∷ []) (bound ++ var ∷ []) (mirror_steps l))) (sym o)

-- over rows; code sees the block as a slice
pub each_gives : (inputs : Inputs) (depth : ℕ) (seen bound : List ℕ) (x : rust.Step) (var : ℕ) (keep : Bool) (e : rust_expr.SExpr) (a : List rust.Step) → x.form ≡ form.Each var keep e a → has x.id seen ≡ false
    → first (nested_blocks x.id depth) ≡ Ok tt → first (whole_refusals inputs bound x.id (mirror_sexpr e)) ≡ Ok tt → (one : List rust.Step) → one ≡ a
    → first (step_refusals inputs depth seen bound (mirror_step x)) ≡ first (steps_refusals inputs (depth + 1) (seen ++ x.id ∷ []) (bound ++ var ∷ []) (mirror_steps one))
each_gives inputs depth seen bound x var keep e a is new deep whole one o =
    let shape : mirror_step x ≡ Each x.id x.at var keep (mirror_sexpr e) (mirror_steps a) = at_Step x ∙ ap (λ f. mirror_step_form f x.id x.at) is ∙ form_Each var keep e a x.id x.at in
    turns_give inputs depth seen bound x var (whole_refusals inputs bound x.id (mirror_sexpr e)) a (ap (λ y. step_refusals inputs depth seen bound y) shape) new deep whole one o

-- over a list
pub over_gives : (inputs : Inputs) (depth : ℕ) (seen bound : List ℕ) (x : rust.Step) (var input : ℕ) (a : List rust.Step) → x.form ≡ form.Over var input a → has x.id seen ≡ false
    → first (nested_blocks x.id depth) ≡ Ok tt → first (list_refusals inputs x.id input) ≡ Ok tt → (one : List rust.Step) → one ≡ a
    → first (step_refusals inputs depth seen bound (mirror_step x)) ≡ first (steps_refusals inputs (depth + 1) (seen ++ x.id ∷ []) (bound ++ var ∷ []) (mirror_steps one))
over_gives inputs depth seen bound x var input a is new deep well one o =
    let shape : mirror_step x ≡ Over x.id x.at var input (mirror_steps a) = at_Step x ∙ ap (λ f. mirror_step_form f x.id x.at) is ∙ form_Over var input a x.id x.at in
    turns_give inputs depth seen bound x var (list_refusals inputs x.id input) a (ap (λ y. step_refusals inputs depth seen bound y) shape) new deep well one o

-- ---- what stands around the blocks of a step

pub in_own : (inputs : Inputs) (depth : ℕ) (id : ℕ) (outer : Bor Around) (ss : Steps)
    → first (steps_refusals inputs depth (seen (s.Step id outer)) (bound (s.Step id outer)) ss) ≡ first (steps_refusals inputs depth (seen outer.now ++ id ∷ []) (bound outer.now) ss)
in_own inputs depth id outer ss =
    ap (λ l. first (steps_refusals inputs depth l (bound (s.Step id outer)) ss)) (seen_Step id outer)
    ∙ ap (λ l. first (steps_refusals inputs depth (seen outer.now ++ id ∷ []) l ss)) (bound_Step id outer)

pub in_second : (inputs : Inputs) (depth : ℕ) (steps : Bor (List rust.Step)) (own : Bor Around) (id : ℕ) (outer : Bor Around) (ss : Steps) → own.now ≡ s.Step id outer
    → first (steps_refusals inputs depth (seen (s.Closed steps own)) (bound (s.Closed steps own)) ss)
    ≡ first (steps_refusals inputs depth ((seen outer.now ++ id ∷ []) ++ steps_numbers (mirror_steps steps.now)) (bound outer.now) ss)
in_second inputs depth steps own id outer ss is =
    ap (λ l. first (steps_refusals inputs depth l (bound (s.Closed steps own)) ss)) (seen_Closed steps own ∙ ap (λ o. seen o ++ steps_numbers (mirror_steps steps.now)) is ∙ ap (λ l. l ++ steps_numbers (mirror_steps steps.now)) (seen_Step id outer))
    ∙ ap (λ l. first (steps_refusals inputs depth ((seen outer.now ++ id ∷ []) ++ steps_numbers (mirror_steps steps.now)) l ss)) (bound_Closed steps own ∙ ap bound is ∙ bound_Step id outer)

pub in_turn : (inputs : Inputs) (depth : ℕ) (var : ℕ) (own : Bor Around) (id : ℕ) (outer : Bor Around) (ss : Steps) → own.now ≡ s.Step id outer
    → first (steps_refusals inputs depth (seen (s.Row var own)) (bound (s.Row var own)) ss)
    ≡ first (steps_refusals inputs depth (seen outer.now ++ id ∷ []) (bound outer.now ++ var ∷ []) ss)
in_turn inputs depth var own id outer ss is =
    ap (λ l. first (steps_refusals inputs depth l (bound (s.Row var own)) ss)) (seen_Row var own ∙ ap seen is ∙ seen_Step id outer)
    ∙ ap (λ l. first (steps_refusals inputs depth (seen outer.now ++ id ∷ []) l ss)) (bound_Row var own ∙ ap (λ o. bound o ++ var ∷ []) is ∙ ap (λ l. l ++ var ∷ []) (bound_Step id outer))

pub in_block : (inputs : Inputs) (depth : ℕ) (steps : Bor (List rust.Step)) (outer : Bor Around) (x : Step)
    → first (step_refusals inputs depth (seen (s.Block steps outer)) (bound (s.Block steps outer)) x)
    ≡ first (step_refusals inputs depth (seen outer.now ++ steps_numbers (mirror_steps steps.now)) (bound outer.now ++ steps_lets (mirror_steps steps.now)) x)
in_block inputs depth steps outer x =
    ap (λ l. first (step_refusals inputs depth l (bound (s.Block steps outer)) x)) (seen_Block steps outer)
    ∙ ap (λ l. first (step_refusals inputs depth (seen outer.now ++ steps_numbers (mirror_steps steps.now)) l x)) (bound_Block steps outer)

-- a refusal at the first of what is left of a block
pub fails_in : (inputs : Inputs) (depth : ℕ) (seen bound : List ℕ) (steps rest : List rust.Step) (x : rust.Step) (r : ScriptRefusal) (answer total : Result (Unit {0}) ScriptRefusal) → steps ≡ x ∷ rest → answer ≡ Err r
    → Err r ≡ first (step_refusals inputs depth seen bound (mirror_step x)) → first (steps_refusals inputs depth seen bound (mirror_steps steps)) ≡ total → answer ≡ total
fails_in inputs depth seen bound steps rest x r answer total is told here so_far =
    told ∙ sym (first-append_err (step_refusals inputs depth seen bound (mirror_step x)) _ r (sym here))
    ∙ ap (λ l. first (steps_refusals inputs depth seen bound (mirror_steps l))) (sym is) ∙ so_far
