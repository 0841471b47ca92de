-- Which parts hold no parts, by the forms that the code has told apart.
use Rattle.std.proofs.Common.{◌≡◌, ℕ, List, true, false, sym, ap, ◌∙◌}
use Rattle.rb_trees.specs.declared.code.Expr as expr
use Rattle.rb_trees.specs.declared.code.Stmt as stmt
use Rattle.rb_trees.specs.declared.remainders.Part as tree
use Rattle.rb_trees.specs.declared.remainders.Part.TheOpen.{Part-F}
use Rattle.rb_trees.specs.declared.remainders.Part.TheVariants as form
use Rattle.rb_trees.specs.declared.remainders.Part.TheViews.{out-Part, roll-Part, roll-out-Part}
use Rattle.rb_trees.specs.mirror.Remainders.{mirror_part}
use Rattle.rb_trees.proofs.mirror.Parts.{form_Plain, form_Pass, form_Bind, form_Both, form_Branch, form_Turns, form_Over}
use Rattle.rb_client.specs.Walks.{is_piece}

module _ (p : tree.Part) where
  abbrev NotPlain : Type 0
  NotPlain = (s : stmt.Stmt) (takes : List (ℕ × ℕ)) → p ≡ form.Plain s takes → ⊥

  abbrev NotPass : Type 0
  NotPass = (step : ℕ) → p ≡ form.Pass step → ⊥

  abbrev NotBind : Type 0
  NotBind = (step : ℕ) (name : List ℕ) (kind : ℕ) → p ≡ form.Bind step name kind → ⊥

  abbrev NotBoth : Type 0
  NotBoth = (step at : ℕ) (name : List ℕ) (value : expr.Expr) → p ≡ form.Both step at name value → ⊥

  abbrev NotBranch : Type 0
  NotBranch = (step : ℕ) (a b : List tree.Part) → p ≡ form.Branch step a b → ⊥

  abbrev NotTurns : Type 0
  NotTurns = (step : ℕ) (name : List ℕ) (kind : ℕ) (a : List tree.Part) → p ≡ form.Turns step name kind a → ⊥

  abbrev NotOver : Type 0
  NotOver = (step at : ℕ) (name list : List ℕ) (input : ℕ) (a : List tree.Part) → p ≡ form.Over step at name list input a → ⊥

  -- what holds no parts is a piece
  pub piece_so : NotBranch → NotTurns → NotOver → is_piece (mirror_part p) ≡ true
  piece_so branch turns over = by_form (out-Part p) (sym (roll-out-Part p))
    where
      by_form : (f : Part-F tree.Part) → p ≡ roll-Part f → is_piece (mirror_part p) ≡ true
      by_form (Part-F.Plain s takes) is = ap is_piece (ap mirror_part (is ∙ form.rolls-Plain s takes) ∙ form_Plain s takes)
      by_form (Part-F.Pass step) is = ap is_piece (ap mirror_part (is ∙ form.rolls-Pass step) ∙ form_Pass step)
      by_form (Part-F.Bind step name kind) is = ap is_piece (ap mirror_part (is ∙ form.rolls-Bind step name kind) ∙ form_Bind step name kind)
      by_form (Part-F.Both step at name value) is = ap is_piece (ap mirror_part (is ∙ form.rolls-Both step at name value) ∙ form_Both step at name value)
      by_form (Part-F.Branch step a b) is = absurd (branch step a b (is ∙ form.rolls-Branch step a b))
      by_form (Part-F.Turns step name kind a) is = absurd (turns step name kind a (is ∙ form.rolls-Turns step name kind a))
      by_form (Part-F.Over step at name list input a) is = absurd (over step at name list input a (is ∙ form.rolls-Over step at name list input a))

  -- a piece is one of the other forms
  pub no_piece : is_piece (mirror_part p) ≡ true → NotPlain → NotPass → NotBind → NotBoth → ⊥
  no_piece h plain pass bind both = by_form (out-Part p) (sym (roll-out-Part p))
    where
      by_form : (f : Part-F tree.Part) → p ≡ roll-Part f → ⊥
      by_form (Part-F.Plain s takes) is = plain s takes (is ∙ form.rolls-Plain s takes)
      by_form (Part-F.Pass step) is = pass step (is ∙ form.rolls-Pass step)
      by_form (Part-F.Bind step name kind) is = bind step name kind (is ∙ form.rolls-Bind step name kind)
      by_form (Part-F.Both step at name value) is = both step at name value (is ∙ form.rolls-Both step at name value)
      by_form (Part-F.Branch step a b) is =
          let e : true ≡ false = sym h ∙ ap is_piece (ap mirror_part (is ∙ form.rolls-Branch step a b) ∙ form_Branch step a b) in
          absurd (cc e)
      by_form (Part-F.Turns step name kind a) is =
          let e : true ≡ false = sym h ∙ ap is_piece (ap mirror_part (is ∙ form.rolls-Turns step name kind a) ∙ form_Turns step name kind a) in
          absurd (cc e)
      by_form (Part-F.Over step at name list input a) is =
          let e : true ≡ false = sym h ∙ ap is_piece (ap mirror_part (is ∙ form.rolls-Over step at name list input a) ∙ form_Over step at name list input a) in
          absurd (cc e)
