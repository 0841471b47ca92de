-- What the form of a statement at a script place says of it.
use Rattle.std.proofs.Common.{◌≡◌, refl, sym, ap, ◌∙◌, ℕ, List, Bool as Truth, true, false, ◌&&◌, ◌||◌, cond}
use Rattle.std.proofs.lemmas.Bool.{and_parts}
use Rattle.rb_trees.specs.mirror.Code.{Expr, Stmts, Run, If, For}
use Rattle.rb_meaning_flow.specs.declared.forms.PlacedForm.{PlacedForm}
use Rattle.rb_meaning_flow.specs.declared.scopes.Role.{Role}
use Rattle.rb_meaning_flow.specs.Facts.{Facts, over_rows}
use Rattle.rb_meaning_flow.specs.Scopes.{Scope}
use Rattle.rb_meaning_flow.specs.Portable.{block_holds, branches_hold, is_constant_list, may_carry, has_far_turns}
use Rattle.rb_meaning_flow.specs.Sites.{Around, is_script_place, turn_role}
use Rattle.rb_meaning_flow.specs.Marks.{is_portable_call}
use Rattle.rb_meaning_flow.specs.Forms.{placed_form}

-- a form other than the plain one is had only where its condition holds
holds_where : (t : Truth) (form : PlacedForm) → (form ≡ PlacedForm.Plain → ⊥) → cond t form PlacedForm.Plain ≡ form → t ≡ true
holds_where true form apart h = refl
holds_where false form apart h = absurd (apart (sym h))

pub alone_calls : (f : Facts) (vs : Scope) (at : ℕ) (e : Expr) → placed_form f vs (Run at e) ≡ PlacedForm.CallAlone → is_portable_call f vs e ≡ true
alone_calls f vs at e h = holds_where (is_portable_call f vs e) PlacedForm.CallAlone (λ g. cc g) h

pub if_holds : (f : Facts) (vs : Scope) (at : ℕ) (c : Expr) (a b : Stmts) → placed_form f vs (If at c a b) ≡ PlacedForm.CarriedIf → branches_hold f a b ≡ true
if_holds f vs at c a b h = holds_where (branches_hold f a b) PlacedForm.CarriedIf (λ g. cc g) h

pub loop_over : (f : Facts) (vs : Scope) (at : ℕ) (name : List ℕ) (e : Expr) (a : Stmts) → placed_form f vs (For at name e a) ≡ PlacedForm.RowsLoop → over_rows f e ≡ true
loop_over f vs at name e a h = by (over_rows f e) (may_carry f vs e a) h
  where
    by : (rows carried : Truth) → cond rows PlacedForm.RowsLoop (cond carried PlacedForm.CarriedLoop PlacedForm.Plain) ≡ PlacedForm.RowsLoop → rows ≡ true
    by true carried g = refl
    by false true g = absurd (cc (g))
    by false false g = absurd (cc (g))

-- a carried loop goes over no rows
pub record IsCarried (f : Facts) (vs : Scope) (e : Expr) (a : Stmts) : Type 0 where
  pub no_rows : over_rows f e ≡ false
  pub list : is_constant_list vs e ≡ true
  pub holds : block_holds f a ≡ true

pub loop_carried : (f : Facts) (vs : Scope) (at : ℕ) (name : List ℕ) (e : Expr) (a : Stmts) → placed_form f vs (For at name e a) ≡ PlacedForm.CarriedLoop → IsCarried f vs e a
loop_carried f vs at name e a h = by (over_rows f e) refl (may_carry f vs e a) refl h
  where
    by : (rows : Truth) → over_rows f e ≡ rows → (carried : Truth) → may_carry f vs e a ≡ carried → cond rows PlacedForm.RowsLoop (cond carried PlacedForm.CarriedLoop PlacedForm.Plain) ≡ PlacedForm.CarriedLoop → IsCarried f vs e a
    by true rows carried may g = absurd (cc (g))
    by false rows false may g = absurd (cc (g))
    by false rows true may g = let parts = and_parts (is_constant_list vs e) (block_holds f a) may in record { no_rows = rows; list = parts.0; holds = parts.1 }

-- both kinds of loops have their turns in the script
pub rows_far : (f : Facts) (vs : Scope) (e : Expr) (a : Stmts) → over_rows f e ≡ true → has_far_turns f vs e a ≡ true
rows_far f vs e a h = ap (λ t. t || may_carry f vs e a) h

pub carried_far : (f : Facts) (vs : Scope) (e : Expr) (a : Stmts) → IsCarried f vs e a → has_far_turns f vs e a ≡ true
carried_far f vs e a c = ap (λ t. t || may_carry f vs e a) c.no_rows ∙ ap (λ t. t && block_holds f a) c.list ∙ c.holds

-- at a script place the variable of such a loop is a row
pub far_row : (f : Facts) (around : List Around) (vs : Scope) (e : Expr) (a : Stmts) → is_script_place f around ≡ true → has_far_turns f vs e a ≡ true → turn_role f around vs e a ≡ Role.Row
far_row f around vs e a script far = ap (λ t. cond t Role.Row Role.Plain) (ap (λ t. over_rows f e || (t && may_carry f vs e a)) script ∙ far)
