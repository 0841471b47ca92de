-- Parts in order are right exactly where their check passes.
use Rattle.std.proofs.Common.{◌≡◌, ℕ, List, [], ◌∷◌, ◌++◌, Ok, refl, ap, sym, ◌∙◌}
use Rattle.rb_meaning_types.specs.Names.{is_new}
use Rattle.rb_meaning_types.specs.Violations.{Checked, NameTaken}
use Rattle.rb_trees.specs.Outcome.{◌>>◌}
use Rattle.rb_meaning_types.specs.Declarations.{new_name}
use Rattle.rb_typing_rules.specs.Order.{Each, AreMembers}
use Rattle.rb_typing_rules.proofs.Steps.{then_ok, must_ok}

pub three_so : (a b c : Checked (Unit {0})) → (a >> b >> c) ≡ Ok tt → (a ≡ Ok tt) × (b ≡ Ok tt) × (c ≡ Ok tt)
three_so a b c h = let s = then_ok (a >> b) c tt h in let t = then_ok a b tt s.0 in (t.0, t.1, s.1)

pub so_three : (a b c : Checked (Unit {0})) → a ≡ Ok tt → b ≡ Ok tt → c ≡ Ok tt → (a >> b >> c) ≡ Ok tt
so_three a b c e f g = ap (λ r. r >> b >> c) e ∙ ap (λ r. r >> c) f ∙ g

pub each_so : {A : Type 0} (Right : A → Type 0) (check : A → Checked (Unit {0})) (all : List A → Checked (Unit {0}))
    → ((a : A) (others : List A) → all (a ∷ others) ≡ (check a >> all others)) → ((a : A) → check a ≡ Ok tt → Right a) → (list : List A) → all list ≡ Ok tt → Each Right list
each_so Right check all step right [] h = tt
each_so Right check all step right (a ∷ others) h =
    let s = then_ok (check a) (all others) tt (sym (step a others) ∙ h) in (right a s.0, each_so Right check all step right others s.1)

pub so_each : {A : Type 0} (Right : A → Type 0) (check : A → Checked (Unit {0})) (all : List A → Checked (Unit {0})) → all [] ≡ Ok tt
    → ((a : A) (others : List A) → all (a ∷ others) ≡ (check a >> all others)) → ((a : A) → Right a → check a ≡ Ok tt) → (list : List A) → Each Right list → all list ≡ Ok tt
so_each Right check all end step so [] h = end
so_each Right check all end step so (a ∷ others) h = step a others ∙ ap (λ r. r >> all others) (so a h.0) ∙ so_each Right check all end step so others h.1

-- members: each by its name first, and then itself
pub members_so : {A : Type 0} (at : A → ℕ) (name : A → List ℕ) (Right : A → Type 0) (check : A → Checked (Unit {0})) (all : List (List ℕ) → List A → Checked (Unit {0}))
    → ((before : List (List ℕ)) (m : A) (ms : List A) → all before (m ∷ ms) ≡ (new_name before (at m) (name m) >> check m >> all (before ++ name m ∷ []) ms))
    → ((m : A) → check m ≡ Ok tt → Right m) → (before : List (List ℕ)) (ms : List A) → all before ms ≡ Ok tt → AreMembers name Right before ms
members_so at name Right check all step right before [] h = tt
members_so at name Right check all step right before (m ∷ ms) h =
    let s = three_so (new_name before (at m) (name m)) (check m) (all (before ++ name m ∷ []) ms) (sym (step before m ms) ∙ h) in
    (must_ok (is_new (name m) before) (NameTaken (at m)) s.0, right m s.1, members_so at name Right check all step right (before ++ name m ∷ []) ms s.2)

pub so_members : {A : Type 0} (at : A → ℕ) (name : A → List ℕ) (Right : A → Type 0) (check : A → Checked (Unit {0})) (all : List (List ℕ) → List A → Checked (Unit {0}))
    → ((before : List (List ℕ)) → all before [] ≡ Ok tt)
    → ((before : List (List ℕ)) (m : A) (ms : List A) → all before (m ∷ ms) ≡ (new_name before (at m) (name m) >> check m >> all (before ++ name m ∷ []) ms))
    → ((m : A) → Right m → check m ≡ Ok tt) → (before : List (List ℕ)) (ms : List A) → AreMembers name Right before ms → all before ms ≡ Ok tt
so_members at name Right check all end step so before [] h = end before
so_members at name Right check all end step so before (m ∷ ms) h =
    step before m ms ∙ so_three (new_name before (at m) (name m)) (check m) (all (before ++ name m ∷ []) ms)
    (rw h.0 refl) (so m h.1) (so_members at name Right check all end step so (before ++ name m ∷ []) ms h.2)
