-- What is computed has one outcome, and so have the rules by cases.
use Rattle.std.proofs.Common.{◌≡◌, ◌⊎◌, inl, inr, Ok, Err, refl}
use Rattle.rb_meaning_types.specs.Violations.{Violation, Checked}
use Rattle.rb_typing_rules.specs.Agree.{HasOneOutcome}

either : (Typed : Type 0) (First : Violation → Type 0) (r : Checked (Unit {0})) → (r ≡ Ok tt → Typed) → ((v : Violation) → r ≡ Err v → First v) → Typed ⊎ ((v : Violation) × First v)
either Typed First (Ok u) typed first = inl (typed refl)
either Typed First (Err v) typed first = inr (v, first v refl)

not_both : (r : Checked (Unit {0})) (v : Violation) → r ≡ Ok tt → r ≡ Err v → ⊥
not_both r v e f = cc

one_alone : (r : Checked (Unit {0})) (v w : Violation) → r ≡ Err v → r ≡ Err w → v ≡ w
one_alone r v w e f = cc

pub outcome : (Typed : Type 0) (First : Violation → Type 0) (r : Checked (Unit {0})) → (r ≡ Ok tt → Typed) → (Typed → r ≡ Ok tt) → ((v : Violation) → r ≡ Err v → First v)
    → ((v : Violation) → First v → r ≡ Err v) → HasOneOutcome Typed First
outcome Typed First r typed so_typed first so_first =
    (either Typed First r typed first, λ v t f. not_both r v (so_typed t) (so_first v f), λ v w f g. one_alone r v w (so_first v f) (so_first w g))
