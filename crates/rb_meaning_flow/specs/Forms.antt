-- The form that a statement has at a script place. It is asked here once; what follows of it, each definition says by cases.
use Rattle.std.specs.Prelude.{Bool, true, false, cond}
use Rattle.rb_trees.specs.mirror.Code.{Stmt, Val, Run, If, For}
use Rattle.rb_meaning_flow.specs.declared.forms.PlacedForm.{PlacedForm}
use Rattle.rb_meaning_flow.specs.Facts.{Facts, over_rows}
use Rattle.rb_meaning_flow.specs.Scopes.{Scope}
use Rattle.rb_meaning_flow.specs.Portable.{portable, branches_hold, may_carry}
use Rattle.rb_meaning_flow.specs.Marks.{is_portable_call}

abbrev pub placed_form : Facts → Scope → Stmt → PlacedForm
placed_form x scope (Val at name e) = cond (portable x scope e) PlacedForm.CarriedVal PlacedForm.Plain
placed_form x scope (Run at e) = cond (is_portable_call x scope e) PlacedForm.CallAlone PlacedForm.Plain
placed_form x scope (If at c a b) = cond (branches_hold x a b) PlacedForm.CarriedIf PlacedForm.Plain
placed_form x scope (For at name e a) = cond (over_rows x e) PlacedForm.RowsLoop (cond (may_carry x scope e a) PlacedForm.CarriedLoop PlacedForm.Plain)
placed_form x scope _ = PlacedForm.Plain

abbrev pub is_carried_form : PlacedForm → Bool
is_carried_form PlacedForm.CarriedLoop = true
is_carried_form PlacedForm.CarriedVal = false
is_carried_form PlacedForm.CallAlone = false
is_carried_form PlacedForm.CarriedIf = false
is_carried_form PlacedForm.RowsLoop = false
is_carried_form PlacedForm.Plain = false
