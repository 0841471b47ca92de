-- What the mirror of each form of a literal is.
use Rattle.std.proofs.Common.{◌≡◌, ℕ, ℤ, List, [], ◌∷◌, map, ap, sym, ◌∙◌, refl}
use Rattle.std.specs.Prelude as prelude
use Rattle.rb_trees.specs.declared.services.Literal as tree
use Rattle.rb_trees.specs.declared.services.Literal.TheVariants as form
use Rattle.rb_trees.specs.declared.services.Literal.TheOpen.{Literal-F}
use Rattle.rb_trees.specs.declared.services.Literal.TheFolds.{fold-Literal, fold-roll-Literal}
use Rattle.rb_trees.specs.mirror.Services.{Literal, Int, Bool, Text, Object, Items, MoreLiterals, literals_from, literal_step, mirror_literal, mirror_literals}

pub literals_lists : (ts : List tree.Literal) → literals_from (map (fold-Literal Literal literal_step) ts) ≡ mirror_literals ts
unfolding mirror_literal
literals_lists [] = refl
literals_lists (t ∷ ts) = ap (MoreLiterals (mirror_literal t)) (literals_lists ts)

pub form_Int : (number : ℤ) → mirror_literal (form.Int number) ≡ Int number
unfolding mirror_literal
form_Int number = ap mirror_literal (sym (form.rolls-Int number)) ∙ fold-roll-Literal Literal literal_step (Literal-F.Int number)

pub form_Bool : (truth : prelude.Bool) → mirror_literal (form.Bool truth) ≡ Bool truth
unfolding mirror_literal
form_Bool truth = ap mirror_literal (sym (form.rolls-Bool truth)) ∙ fold-roll-Literal Literal literal_step (Literal-F.Bool truth)

pub form_Text : (text : List ℕ) → mirror_literal (form.Text text) ≡ Text text
unfolding mirror_literal
form_Text text = ap mirror_literal (sym (form.rolls-Text text)) ∙ fold-roll-Literal Literal literal_step (Literal-F.Text text)

pub form_Object : (number : ℕ) → mirror_literal (form.Object number) ≡ Object number
unfolding mirror_literal
form_Object number = ap mirror_literal (sym (form.rolls-Object number)) ∙ fold-roll-Literal Literal literal_step (Literal-F.Object number)

pub form_Items : (items : List tree.Literal) → mirror_literal (form.Items items) ≡ Items (mirror_literals items)
unfolding mirror_literal
form_Items items = ap mirror_literal (sym (form.rolls-Items items)) ∙ fold-roll-Literal Literal literal_step (Literal-F.Items items) ∙ ap (λ x. Items x) (literals_lists items)

pub ruleset literals = (form_Int, form_Bool, form_Text, form_Object, form_Items)
