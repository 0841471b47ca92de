-- Statements of which only the remote expressions are performed, as they have no other form.
use Rattle.std.proofs.Common.{◌≡◌, ℕ, List, [], refl, sym, ap, subst, ◌∙◌}
use Rattle.std.specs.Prelude.{Bool, true, false, cond, OnOk, Result}
use Rattle.rb_trees.specs.declared.code.Expr as expr
use Rattle.rb_trees.specs.declared.code.Stmt as stmt
use Rattle.rb_trees.specs.declared.code.StmtForm.{StmtForm}
use Rattle.rb_trees.specs.declared.code.StmtForm.TheOpen.{StmtForm-F}
use Rattle.rb_trees.specs.declared.code.StmtForm.TheVariants as form
use Rattle.rb_trees.specs.declared.code.StmtForm.TheViews.{out-StmtForm, roll-StmtForm, roll-out-StmtForm}
use Rattle.rb_trees.specs.mirror.Code as code
use Rattle.rb_trees.specs.mirror.Code.{Expr, Stmt, mirror_expr, mirror_stmt, mirror_stmts}
use Rattle.rb_meaning_code.specs.State.{Names}
use Rattle.rb_meaning_flow.specs.declared.forms.PlacedForm.{PlacedForm}
use Rattle.rb_meaning_flow.specs.declared.scopes.Role.{Role}
use Rattle.rb_meaning_flow.specs.Facts.{Facts, facts_of, over_rows}
use Rattle.rb_meaning_flow.specs.Forms.{placed_form}
use Rattle.rb_meaning_flow.specs.Marks.{is_portable_call}
use Rattle.rb_meaning_flow.specs.Portable.{branches_hold, may_carry, portable}
use Rattle.rb_meaning_flow.specs.Scopes.{Scope, with_variable}
use Rattle.rb_meaning_flow.specs.Sites.{scope_after}
use Rattle.rb_meaning.specs.RemotePart.{Rest}
use Rattle.rb_engine.proofs.Forms.{assign_form, batch_form, for_form, if_form, print_form, run_form, throw_form, try_form, val_form, var_form, while_form}
use Rattle.rb_plain.specs.Staged.{program_of}
use Rattle.rb_plain.specs.Walks.{form_meant, plain_scope, skim_meant}
use Rattle.rb_plain.specs.declared.remote_world.RemoteWorld.{RemoteWorld}

-- one that hasn't the one form that it could have
plain_or : (b : Bool) (f : PlacedForm) → (cond b f PlacedForm.Plain ≡ f → ⊥) → cond b f PlacedForm.Plain ≡ PlacedForm.Plain
plain_or true f isnt = absurd (isnt refl)
plain_or false f isnt = refl

unlike : {r placed : PlacedForm} (b : Bool) (f : PlacedForm) → r ≡ placed → placed ≡ cond b f PlacedForm.Plain → (r ≡ f → ⊥) → cond b f PlacedForm.Plain ≡ PlacedForm.Plain
unlike b f er e isnt = plain_or b f (λ h. isnt (er ∙ e ∙ h))

-- one that hasn't either of the two forms that it could have
unlike_both : {r placed : PlacedForm} (b c : Bool) (f g : PlacedForm) → r ≡ placed → placed ≡ cond b f (cond c g PlacedForm.Plain) → (r ≡ f → ⊥) → (r ≡ g → ⊥)
    → cond b f (cond c g PlacedForm.Plain) ≡ PlacedForm.Plain
unlike_both true c f g er e isnt nor = absurd (isnt (er ∙ e))
unlike_both false c f g er e isnt nor = unlike c g er e nor

-- the role of a val, by the form of its statement
carried_role : (b : Bool) → cond b PlacedForm.CarriedVal PlacedForm.Plain ≡ PlacedForm.CarriedVal → Role.Carried ≡ cond b Role.Carried Role.Plain
carried_role true h = refl
carried_role false h = absurd (cc h)

plain_role : (b : Bool) → cond b PlacedForm.CarriedVal PlacedForm.Plain ≡ PlacedForm.Plain → Role.Plain ≡ cond b Role.Carried Role.Plain
plain_role true h = absurd (cc h)
plain_role false h = refl

pub on_ok : {A E B : Type 0} {y z : B} (r : Result A E) (x : B) → y ≡ z → OnOk r (x ≡ y) → OnOk r (x ≡ z)
on_ok r x e h = subst (λ y. OnOk r (x ≡ y)) e h

module _ (w : RemoteWorld) (scope : Scope) where
  abbrev here : Facts
  here = facts_of (program_of w.stage)

  -- Only the remote expressions of the statement are performed, and it carries nothing.
  abbrev pub Left : Stmt → Type 0
  Left m = ((names : Names) (go : Rest) → form_meant (placed_form here scope m) w scope m names go ≡ skim_meant w scope m names go)
      × (plain_scope scope m ≡ scope_after here [] scope m)

  plain : (m : Stmt) → placed_form here scope m ≡ PlacedForm.Plain → plain_scope scope m ≡ scope_after here [] scope m → Left m
  plain m h same = (λ names go. ap (λ f. form_meant f w scope m names go) h, same)

  -- A call alone is performed as a plain one is.
  run_skims : (at : ℕ) (e : Expr) (names : Names) (go : Rest) (b : Bool)
      → form_meant (cond b PlacedForm.CallAlone PlacedForm.Plain) w scope (code.Run at e) names go ≡ skim_meant w scope (code.Run at e) names go
  run_skims at e names go true = refl
  run_skims at e names go false = refl

  module _ (s : stmt.Stmt) where
    -- what a carried val declares
    pub val_scope : {n : List ℕ} {e : expr.Expr} → placed_form here scope (mirror_stmt s) ≡ PlacedForm.CarriedVal → s.form ≡ form.Val n e
        → with_variable scope n Role.Carried s.at ≡ scope_after here [] scope (mirror_stmt s)
    val_scope {n = n} {e = e} h is =
        ap (λ role. with_variable scope n role s.at) (carried_role (portable here scope (mirror_expr e)) (sym (ap (placed_form here scope) (val_form s is)) ∙ h))
        ∙ sym (ap (scope_after here [] scope) (val_form s is))

    pub val_left : {r : PlacedForm} {n : List ℕ} {e : expr.Expr} → r ≡ placed_form here scope (mirror_stmt s) → s.form ≡ form.Val n e → (r ≡ PlacedForm.CarriedVal → ⊥) → Left (mirror_stmt s)
    val_left {n = n} {e = e} er is isnt =
        let b : Bool = portable here scope (mirror_expr e) in
        let h = unlike b PlacedForm.CarriedVal er (ap (placed_form here scope) (val_form s is)) isnt in
        subst Left (sym (val_form s is)) (plain (code.Val s.at n (mirror_expr e)) h (ap (λ role. with_variable scope n role s.at) (plain_role b h)))

    pub if_left : {r : PlacedForm} {c : expr.Expr} (a b : List stmt.Stmt) → r ≡ placed_form here scope (mirror_stmt s) → s.form ≡ form.If c a b → (r ≡ PlacedForm.CarriedIf → ⊥) → Left (mirror_stmt s)
    if_left {c = c} a b er is isnt =
        let h = unlike (branches_hold here (mirror_stmts a) (mirror_stmts b)) PlacedForm.CarriedIf er (ap (placed_form here scope) (if_form s a b is)) isnt in
        subst Left (sym (if_form s a b is)) (plain (code.If s.at (mirror_expr c) (mirror_stmts a) (mirror_stmts b)) h refl)

    pub for_left : {r : PlacedForm} {n : List ℕ} {e : expr.Expr} (a : List stmt.Stmt) → r ≡ placed_form here scope (mirror_stmt s) → s.form ≡ form.For n e a → (r ≡ PlacedForm.RowsLoop → ⊥) → (r ≡ PlacedForm.CarriedLoop → ⊥) → Left (mirror_stmt s)
    for_left {n = n} {e = e} a er is isnt nor =
        let h = unlike_both (over_rows here (mirror_expr e)) (may_carry here scope (mirror_expr e) (mirror_stmts a)) PlacedForm.RowsLoop PlacedForm.CarriedLoop er (ap (placed_form here scope) (for_form s a is)) isnt nor in
        subst Left (sym (for_form s a is)) (plain (code.For s.at n (mirror_expr e) (mirror_stmts a)) h refl)

    -- the statements that are always performed so
    pub others_left : ((n : List ℕ) (e : expr.Expr) → s.form ≡ form.Val n e → ⊥) → ((c : expr.Expr) (a b : List stmt.Stmt) → s.form ≡ form.If c a b → ⊥)
        → ((n : List ℕ) (e : expr.Expr) (a : List stmt.Stmt) → s.form ≡ form.For n e a → ⊥) → Left (mirror_stmt s)
    others_left val branch loop = by_form (out-StmtForm s.form) (sym (roll-out-StmtForm s.form))
      where
        by_form : (f : StmtForm-F StmtForm stmt.Stmt) → s.form ≡ roll-StmtForm f → Left (mirror_stmt s)
        by_form (StmtForm-F.Val n e) is = absurd (val n e (is ∙ form.rolls-Val n e))
        by_form (StmtForm-F.Var n e) is = subst Left (sym (var_form s (is ∙ form.rolls-Var n e))) (plain (code.Var s.at n (mirror_expr e)) refl refl)
        by_form (StmtForm-F.Assign a b) is = subst Left (sym (assign_form s a b (is ∙ form.rolls-Assign a b))) (plain (code.Assign s.at (mirror_expr a) (mirror_expr b)) refl refl)
        by_form (StmtForm-F.Run e) is =
            subst Left (sym (run_form s (is ∙ form.rolls-Run e))) (λ names go. run_skims s.at (mirror_expr e) names go (is_portable_call here scope (mirror_expr e)), refl)
        by_form (StmtForm-F.Print e) is = subst Left (sym (print_form s (is ∙ form.rolls-Print e))) (plain (code.Print s.at (mirror_expr e)) refl refl)
        by_form (StmtForm-F.Throw e) is = subst Left (sym (throw_form s (is ∙ form.rolls-Throw e))) (plain (code.Throw s.at (mirror_expr e)) refl refl)
        by_form (StmtForm-F.If c a b) is = absurd (branch c a b (is ∙ form.rolls-If c a b))
        by_form (StmtForm-F.While c a) is = subst Left (sym (while_form s a (is ∙ form.rolls-While c a))) (plain (code.While s.at (mirror_expr c) (mirror_stmts a)) refl refl)
        by_form (StmtForm-F.For n e a) is = absurd (loop n e a (is ∙ form.rolls-For n e a))
        by_form (StmtForm-F.Try a n b) is = subst Left (sym (try_form s a b (is ∙ form.rolls-Try a n b))) (plain (code.Try s.at (mirror_stmts a) n (mirror_stmts b)) refl refl)
        by_form (StmtForm-F.Batch i n a) is = subst Left (sym (batch_form s a (is ∙ form.rolls-Batch i n a))) (plain (code.Batch s.at i n (mirror_stmts a)) refl refl)
