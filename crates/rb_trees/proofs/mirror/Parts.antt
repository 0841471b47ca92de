-- What the mirror of each form of a part is.
use Rattle.std.proofs.Common.{◌≡◌, ℕ, List, [], ◌∷◌, map, ap, sym, ◌∙◌, refl}
use Rattle.rb_trees.specs.declared.code.Expr as expr
use Rattle.rb_trees.specs.declared.code.Stmt as stmt
use Rattle.rb_trees.specs.mirror.Code.{mirror_expr, mirror_stmt}
use Rattle.rb_trees.specs.declared.remainders.Part as tree
use Rattle.rb_trees.specs.declared.remainders.Part.TheVariants as form
use Rattle.rb_trees.specs.declared.remainders.Part.TheOpen.{Part-F}
use Rattle.rb_trees.specs.declared.remainders.Part.TheFolds.{fold-Part, fold-roll-Part}
use Rattle.rb_trees.specs.mirror.Remainders.{Part, Plain, Pass, Bind, Both, Branch, Turns, Over, MoreParts, parts_from, part_step, mirror_part, mirror_parts}

pub parts_lists : (ts : List tree.Part) → parts_from (map (fold-Part Part part_step) ts) ≡ mirror_parts ts
unfolding mirror_part
parts_lists [] = refl
parts_lists (t ∷ ts) = ap (MoreParts (mirror_part t)) (parts_lists ts)

pub form_Plain : (stmt : stmt.Stmt) (takes : List (ℕ × ℕ)) → mirror_part (form.Plain stmt takes) ≡ Plain (mirror_stmt stmt) takes
unfolding mirror_part
form_Plain stmt takes = ap mirror_part (sym (form.rolls-Plain stmt takes)) ∙ fold-roll-Part Part part_step (Part-F.Plain stmt takes)

pub form_Pass : (step : ℕ) → mirror_part (form.Pass step) ≡ Pass step
unfolding mirror_part
form_Pass step = ap mirror_part (sym (form.rolls-Pass step)) ∙ fold-roll-Part Part part_step (Part-F.Pass step)

pub form_Bind : (step : ℕ) (name : List ℕ) (kind : ℕ) → mirror_part (form.Bind step name kind) ≡ Bind step name kind
unfolding mirror_part
form_Bind step name kind = ap mirror_part (sym (form.rolls-Bind step name kind)) ∙ fold-roll-Part Part part_step (Part-F.Bind step name kind)

pub form_Both : (step : ℕ) (at : ℕ) (name : List ℕ) (value : expr.Expr) → mirror_part (form.Both step at name value) ≡ Both step at name (mirror_expr value)
unfolding mirror_part
form_Both step at name value = ap mirror_part (sym (form.rolls-Both step at name value)) ∙ fold-roll-Part Part part_step (Part-F.Both step at name value)

pub form_Branch : (step : ℕ) (a : List tree.Part) (b : List tree.Part) → mirror_part (form.Branch step a b) ≡ Branch step (mirror_parts a) (mirror_parts b)
unfolding mirror_part
form_Branch step a b = ap mirror_part (sym (form.rolls-Branch step a b)) ∙ fold-roll-Part Part part_step (Part-F.Branch step a b) ∙ ap (λ x. Branch step x (parts_from (map (fold-Part Part part_step) b))) (parts_lists a) ∙ ap (λ x. Branch step (mirror_parts a) x) (parts_lists b)

pub form_Turns : (step : ℕ) (name : List ℕ) (kind : ℕ) (a : List tree.Part) → mirror_part (form.Turns step name kind a) ≡ Turns step name kind (mirror_parts a)
unfolding mirror_part
form_Turns step name kind a = ap mirror_part (sym (form.rolls-Turns step name kind a)) ∙ fold-roll-Part Part part_step (Part-F.Turns step name kind a) ∙ ap (λ x. Turns step name kind x) (parts_lists a)

pub form_Over : (step at : ℕ) (name list : List ℕ) (input : ℕ) (a : List tree.Part) → mirror_part (form.Over step at name list input a) ≡ Over step at name list input (mirror_parts a)
unfolding mirror_part
form_Over step at name list input a = ap mirror_part (sym (form.rolls-Over step at name list input a)) ∙ fold-roll-Part Part part_step (Part-F.Over step at name list input a) ∙ ap (λ x. Over step at name list input x) (parts_lists a)

pub ruleset parts = (form_Plain, form_Pass, form_Bind, form_Both, form_Branch, form_Turns, form_Over)
