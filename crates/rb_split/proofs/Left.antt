-- Which statements have no form of their own, and are left to the client.
use Rattle.std.proofs.Common.{◌≡◌, ℕ, List, [], refl, sym, ap, subst, ◌∙◌}
use Rattle.std.specs.Prelude.{Bool, true, false, cond}
use Rattle.rb_trees.specs.declared.code.Expr as expr
use Rattle.rb_trees.specs.declared.code.Stmt as stmt
use Rattle.rb_trees.specs.declared.code.StmtForm.{StmtForm}
use Rattle.rb_trees.specs.declared.code.StmtForm.TheOpen.{StmtForm-F}
use Rattle.rb_trees.specs.declared.code.StmtForm.TheVariants as form
use Rattle.rb_trees.specs.declared.code.StmtForm.TheViews.{out-StmtForm, roll-StmtForm, roll-out-StmtForm}
use Rattle.rb_trees.specs.mirror.Code.{Stmt, Val, Var, Assign, Run, Print, Throw, If, While, For, Try, Batch, mirror_expr, mirror_stmt}
use Rattle.rb_meaning_flow.specs.declared.forms.PlacedForm.{PlacedForm}
use Rattle.rb_meaning_flow.specs.declared.scopes.Role.{Role}
use Rattle.rb_meaning_flow.specs.Facts.{Facts}
use Rattle.rb_meaning_flow.specs.Forms.{placed_form}
use Rattle.rb_meaning_flow.specs.Marks.{is_portable_call}
use Rattle.rb_meaning_flow.specs.Portable.{portable}
use Rattle.rb_meaning_flow.specs.Scopes.{Scope, with_variable}
use Rattle.rb_meaning_flow.specs.Sites.{scope_after}
use Rattle.rb_meaning_split.specs.Inputs.{kept_constants, used_as}
use Rattle.rb_split.specs.Views.{plain_scope}
use Rattle.rb_split.proofs.Forms.{assign_form, batch_form, for_form, if_form, print_form, run_form, throw_form, try_form, val_form, var_form, while_form}

-- a form of which only the remote expressions go into the script
abbrev pub IsBare : PlacedForm → Type 0
IsBare PlacedForm.CarriedVal = ⊥
IsBare PlacedForm.CallAlone = Unit {0}
IsBare PlacedForm.CarriedIf = ⊥
IsBare PlacedForm.RowsLoop = ⊥
IsBare PlacedForm.CarriedLoop = ⊥
IsBare PlacedForm.Plain = Unit {0}

pub bare_plain : {f : PlacedForm} → f ≡ PlacedForm.Plain → IsBare f
bare_plain h = subst IsBare (sym h) tt

alone_holds : (b : Bool) → cond b PlacedForm.CallAlone PlacedForm.Plain ≡ PlacedForm.CallAlone → b ≡ true
alone_holds true h = refl
alone_holds false h = absurd (cc h)

bare_run : (b : Bool) → IsBare (cond b PlacedForm.CallAlone PlacedForm.Plain)
bare_run true = tt
bare_run false = tt

-- one that hasn't the one form that it could have
plain_or : (b : Bool) (f : PlacedForm) → (cond b f PlacedForm.Plain ≡ f → ⊥) → cond b f PlacedForm.Plain ≡ PlacedForm.Plain
plain_or true f isnt = absurd (isnt refl)
plain_or false f isnt = refl

unlike : {r placed : PlacedForm} (b : Bool) (f : PlacedForm) → r ≡ placed → placed ≡ cond b f PlacedForm.Plain → (r ≡ f → ⊥) → placed ≡ PlacedForm.Plain
unlike b f er e isnt = e ∙ plain_or b f (λ h. isnt (er ∙ e ∙ h))

-- a loop that has neither form of a loop whose turns are the script's
unlike_both : {r placed : PlacedForm} (b c : Bool) → r ≡ placed → placed ≡ cond b PlacedForm.RowsLoop (cond c PlacedForm.CarriedLoop PlacedForm.Plain)
    → (r ≡ PlacedForm.RowsLoop → ⊥) → (r ≡ PlacedForm.CarriedLoop → ⊥) → placed ≡ PlacedForm.Plain
unlike_both true c er e rows carried = absurd (rows (er ∙ e))
unlike_both false c er e rows carried = unlike c PlacedForm.CarriedLoop er e carried

-- the role of a val, by the form of its statement
carried_role : (b : Bool) → cond b PlacedForm.CarriedVal PlacedForm.Plain ≡ PlacedForm.CarriedVal → Role.Carried ≡ cond b Role.Carried Role.Plain
carried_role true h = refl
carried_role false h = absurd (cc h)

bare_role : (b : Bool) → IsBare (cond b PlacedForm.CarriedVal PlacedForm.Plain) → Role.Plain ≡ cond b Role.Carried Role.Plain
bare_role true h = absurd h
bare_role false h = refl

module _ (x : Facts) (scope : Scope) where
  -- what such a statement gives to the script, and what it declares
  pub bare_used : (f : PlacedForm) (s : Stmt) → IsBare f → used_as x f scope s ≡ kept_constants x scope s
  bare_used PlacedForm.CarriedVal s h = absurd h
  bare_used PlacedForm.CallAlone s h = refl
  bare_used PlacedForm.CarriedIf s h = absurd h
  bare_used PlacedForm.RowsLoop s h = absurd h
  bare_used PlacedForm.CarriedLoop s h = absurd h
  bare_used PlacedForm.Plain s h = refl

  pub bare_scope : (s : Stmt) → IsBare (placed_form x scope s) → plain_scope scope s ≡ scope_after x [] scope s
  bare_scope (Val at name e) h = ap (λ role. with_variable scope name role at) (bare_role (portable x scope e) h)
  bare_scope (Var at name e) h = refl
  bare_scope (Assign at a b) h = refl
  bare_scope (Run at e) h = refl
  bare_scope (Print at e) h = refl
  bare_scope (Throw at e) h = refl
  bare_scope (If at c a b) h = refl
  bare_scope (While at c a) h = refl
  bare_scope (For at name e a) h = refl
  bare_scope (Try at a name b) h = refl
  bare_scope (Batch at interface root a) h = refl

  module _ (s : stmt.Stmt) where
    abbrev here : PlacedForm
    here = placed_form x scope (mirror_stmt s)

    -- what a carried val declares
    pub val_scope : {n : List ℕ} {e : expr.Expr} → here ≡ PlacedForm.CarriedVal → s.form ≡ form.Val n e → with_variable scope n Role.Carried s.at ≡ scope_after x [] scope (mirror_stmt s)
    val_scope {n = n} {e = e} h is =
        ap (λ role. with_variable scope n role s.at) (carried_role (portable x scope (mirror_expr e)) (sym (ap (placed_form x scope) (val_form s is)) ∙ h))
        ∙ sym (ap (scope_after x [] scope) (val_form s is))

    -- a call alone is portable and holds a call
    pub call_holds : {e : expr.Expr} → here ≡ PlacedForm.CallAlone → s.form ≡ form.Run e → is_portable_call x scope (mirror_expr e) ≡ true
    call_holds {e = e} h is = alone_holds (is_portable_call x scope (mirror_expr e)) (sym (ap (placed_form x scope) (run_form s is)) ∙ h)

    pub val_left : {r : PlacedForm} {n : List ℕ} {e : expr.Expr} → r ≡ here → s.form ≡ form.Val n e → (r ≡ PlacedForm.CarriedVal → ⊥) → here ≡ PlacedForm.Plain
    val_left er is isnt = unlike _ PlacedForm.CarriedVal er (ap (placed_form x scope) (val_form s is)) isnt

    pub run_left : {r : PlacedForm} {e : expr.Expr} → r ≡ here → s.form ≡ form.Run e → (r ≡ PlacedForm.CallAlone → ⊥) → here ≡ PlacedForm.Plain
    run_left er is isnt = unlike _ PlacedForm.CallAlone er (ap (placed_form x scope) (run_form s is)) isnt

    pub if_left : {r : PlacedForm} {c : expr.Expr} (a b : List stmt.Stmt) → r ≡ here → s.form ≡ form.If c a b → (r ≡ PlacedForm.CarriedIf → ⊥) → here ≡ PlacedForm.Plain
    if_left a b er is isnt = unlike _ PlacedForm.CarriedIf er (ap (placed_form x scope) (if_form s a b is)) isnt

    pub for_left : {r : PlacedForm} {n : List ℕ} {e : expr.Expr} (a : List stmt.Stmt) → r ≡ here → s.form ≡ form.For n e a
        → (r ≡ PlacedForm.RowsLoop → ⊥) → (r ≡ PlacedForm.CarriedLoop → ⊥) → here ≡ PlacedForm.Plain
    for_left a er is rows carried = unlike_both _ _ er (ap (placed_form x scope) (for_form s a is)) rows carried

    -- the others, of which an expression alone may hold a call
    others : (P : PlacedForm → Type 0) → P PlacedForm.Plain → ((e : expr.Expr) → s.form ≡ form.Run e → P here)
        → ((n : List ℕ) (e : expr.Expr) → s.form ≡ form.Val n e → ⊥) → ((c : expr.Expr) (a b : List stmt.Stmt) → s.form ≡ form.If c a b → ⊥)
        → ((n : List ℕ) (e : expr.Expr) (a : List stmt.Stmt) → s.form ≡ form.For n e a → ⊥) → P here
    others P plain run val branch loop = by_form (out-StmtForm s.form) (sym (roll-out-StmtForm s.form))
      where
        of : {m : Stmt} → mirror_stmt s ≡ m → P (placed_form x scope m) → P here
        of e h = subst (λ m. P (placed_form x scope m)) (sym e) h

        by_form : (f : StmtForm-F StmtForm stmt.Stmt) → s.form ≡ roll-StmtForm f → P here
        by_form (StmtForm-F.Val n e) is = absurd (val n e (is ∙ form.rolls-Val n e))
        by_form (StmtForm-F.Var n e) is = of (var_form s (is ∙ form.rolls-Var n e)) plain
        by_form (StmtForm-F.Assign a b) is = of (assign_form s (is ∙ form.rolls-Assign a b)) plain
        by_form (StmtForm-F.Run e) is = run e (is ∙ form.rolls-Run e)
        by_form (StmtForm-F.Print e) is = of (print_form s (is ∙ form.rolls-Print e)) plain
        by_form (StmtForm-F.Throw e) is = of (throw_form s (is ∙ form.rolls-Throw e)) plain
        by_form (StmtForm-F.If c a b) is = absurd (branch c a b (is ∙ form.rolls-If c a b))
        by_form (StmtForm-F.While c a) is = of (while_form s a (is ∙ form.rolls-While c a)) plain
        by_form (StmtForm-F.For n e a) is = absurd (loop n e a (is ∙ form.rolls-For n e a))
        by_form (StmtForm-F.Try a n b) is = of (try_form s a b (is ∙ form.rolls-Try a n b)) plain
        by_form (StmtForm-F.Batch i n a) is = of (batch_form s a (is ∙ form.rolls-Batch i n a)) plain

    pub others_left : ((n : List ℕ) (e : expr.Expr) → s.form ≡ form.Val n e → ⊥) → ((e : expr.Expr) → s.form ≡ form.Run e → ⊥)
        → ((c : expr.Expr) (a b : List stmt.Stmt) → s.form ≡ form.If c a b → ⊥) → ((n : List ℕ) (e : expr.Expr) (a : List stmt.Stmt) → s.form ≡ form.For n e a → ⊥)
        → here ≡ PlacedForm.Plain
    others_left val run branch loop = others (λ f. f ≡ PlacedForm.Plain) refl (λ e is. absurd (run e is)) val branch loop

    pub others_bare : ((n : List ℕ) (e : expr.Expr) → s.form ≡ form.Val n e → ⊥) → ((c : expr.Expr) (a b : List stmt.Stmt) → s.form ≡ form.If c a b → ⊥)
        → ((n : List ℕ) (e : expr.Expr) (a : List stmt.Stmt) → s.form ≡ form.For n e a → ⊥) → IsBare here
    others_bare val branch loop =
        others IsBare tt (λ e is. subst (λ m. IsBare (placed_form x scope m)) (sym (run_form s is)) (bare_run (is_portable_call x scope (mirror_expr e)))) val branch loop
