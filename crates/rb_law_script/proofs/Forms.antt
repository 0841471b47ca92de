-- What the form of a statement at a script place tells of it.
use Rattle.std.proofs.Common.{◌≡◌, refl, Bool as Truth, true, false, cond}
use Rattle.rb_trees.specs.mirror.Code.{Stmt, Val, Run, If, For}
use Rattle.rb_meaning_flow.specs.declared.forms.PlacedForm.{PlacedForm}
use Rattle.rb_meaning_flow.specs.Facts.{Facts, over_rows}
use Rattle.rb_meaning_flow.specs.Scopes.{Scope}
use Rattle.rb_meaning_flow.specs.Portable.{portable, branches_hold, may_carry}
use Rattle.rb_meaning_flow.specs.Marks.{is_portable_call}
use Rattle.rb_meaning_flow.specs.Forms.{placed_form}

abbrev pub Tells : Facts → Scope → PlacedForm → Stmt → Type 0
Tells f vs PlacedForm.CarriedVal (Val at name e) = portable f vs e ≡ true
Tells f vs PlacedForm.CallAlone (Run at e) = is_portable_call f vs e ≡ true
Tells f vs PlacedForm.CarriedIf (If at c a b) = branches_hold f a b ≡ true
Tells f vs PlacedForm.RowsLoop (For at name e a) = over_rows f e ≡ true
Tells f vs PlacedForm.CarriedLoop (For at name e a) = (over_rows f e ≡ false) × (may_carry f vs e a ≡ true)
Tells f vs PlacedForm.Plain (Val at name e) = portable f vs e ≡ false
Tells f vs PlacedForm.Plain (Run at e) = is_portable_call f vs e ≡ false
Tells f vs PlacedForm.Plain (If at c a b) = branches_hold f a b ≡ false
Tells f vs PlacedForm.Plain (For at name e a) = (over_rows f e ≡ false) × (may_carry f vs e a ≡ false)
Tells f vs PlacedForm.Plain s = Unit {0}
Tells f vs form s = ⊥

by_truth : (P : PlacedForm → Type 0) (t : Truth) (form other : PlacedForm) → (t ≡ true → P form) → (t ≡ false → P other) → P (cond t form other)
by_truth P true form other h g = h refl
by_truth P false form other h g = g refl

pub told : (f : Facts) (vs : Scope) (s : Stmt) → Tells f vs (placed_form f vs s) s
told f vs (Val at name e) = by_truth (λ form. Tells f vs form (Val at name e)) (portable f vs e) PlacedForm.CarriedVal PlacedForm.Plain (λ h. h) (λ h. h)
told f vs (Run at e) = by_truth (λ form. Tells f vs form (Run at e)) (is_portable_call f vs e) PlacedForm.CallAlone PlacedForm.Plain (λ h. h) (λ h. h)
told f vs (If at c a b) = by_truth (λ form. Tells f vs form (If at c a b)) (branches_hold f a b) PlacedForm.CarriedIf PlacedForm.Plain (λ h. h) (λ h. h)
told f vs (For at name e a) =
    let P = λ (form : PlacedForm). Tells f vs form (For at name e a) in
    by_truth P (over_rows f e) PlacedForm.RowsLoop (cond (may_carry f vs e a) PlacedForm.CarriedLoop PlacedForm.Plain) (λ h. h)
    (λ apart. by_truth P (may_carry f vs e a) PlacedForm.CarriedLoop PlacedForm.Plain (λ h. (apart, h)) (λ h. (apart, h)))
told f vs s = tt
