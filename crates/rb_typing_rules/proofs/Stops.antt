-- Where a check may stop: which violations it may give, step by step.
use Rattle.std.proofs.Common.{◌≡◌, ℕ, List, [], ◌∷◌, ◌++◌, Bool as Truth, true, false, Option, Some, None, Ok, Err, refl, ap, sym, subst, ◌∙◌}
use Rattle.rb_meaning_types.specs.Kinds.{Kind, same_kind}
use Rattle.rb_meaning_types.specs.Names.{is_new}
use Rattle.rb_meaning_types.specs.Violations.{Violation, Checked, Placed, NameTaken, with_place, wanted, wrong_type}
use Rattle.rb_trees.specs.Outcome.{◌>>=◌, ◌>>◌, known, must}
use Rattle.rb_meaning_types.specs.Declarations.{new_name}
use Rattle.rb_typing_rules.specs.Order.{Differ, InOrder, first, second, InList, item, later_item, InMembers, name_taken, member, later_member}
use Rattle.rb_typing_rules.proofs.Steps.{same_sound, same_refl}

-- each violation that a check gives has a property
pub record Stops {A : Type 0} (Q : Violation → Type 0) (r : Checked A) : Type 0 where
  pub by : (v : Violation) → r ≡ Err v → Q v

pub ends : {A : Type 0} (Q : Violation → Type 0) (v : Violation) → Q v → Stops {A = A} Q (Err v)
ends Q v q = record { by = λ w e. let same : v ≡ w = cc in subst Q same q }

pub passes : {A : Type 0} (Q : Violation → Type 0) (a : A) → Stops Q (Ok a)
passes Q a = record { by = λ w e. absurd (cc) }

pub weaker : {A : Type 0} (Q R : Violation → Type 0) (r : Checked A) → ((v : Violation) → Q v → R v) → Stops Q r → Stops R r
weaker Q R r f s = record { by = λ v e. f v (s.by v e) }

pub bind_stops : {A B : Type 0} (Q : Violation → Type 0) (r : Checked A) (f : A → Checked B) → Stops Q r → ((a : A) → r ≡ Ok a → Stops Q (f a)) → Stops Q (r >>= f)
bind_stops Q (Ok a) f s t = t a refl
bind_stops Q (Err v) f s t = ends Q v (s.by v refl)

pub then_stops : {B : Type 0} (Q : Violation → Type 0) (r : Checked (Unit {0})) (t : Checked B) → Stops Q r → (r ≡ Ok tt → Stops Q t) → Stops Q (r >> t)
then_stops Q (Ok u) t s k = k refl
then_stops Q (Err v) t s k = ends Q v (s.by v refl)

pub placed_stops : {B : Type 0} (Q : Violation → Type 0) (at : ℕ) (r : Checked Kind) (f : Placed → Checked B) → Stops Q r
    → ((kind : Kind) → r ≡ Ok kind → Stops Q (f (record { at = at; kind = kind }))) → Stops Q (with_place at r >>= f)
placed_stops Q at (Ok kind) f s t = t kind refl
placed_stops Q at (Err v) f s t = ends Q v (s.by v refl)

pub must_stops : {B : Type 0} (Q : Violation → Type 0) (b : Truth) (v : Violation) (t : Checked B) → (b ≡ false → Q v) → (b ≡ true → Stops Q t) → Stops Q (must b v >> t)
must_stops Q true v t q k = k refl
must_stops Q false v t q k = ends Q v (q refl)

pub must_stop : (Q : Violation → Type 0) (b : Truth) (v : Violation) → (b ≡ false → Q v) → Stops Q (must b v)
must_stop Q true v q = passes Q tt
must_stop Q false v q = ends Q v (q refl)

pub known_stops : {A B : Type 0} (Q : Violation → Type 0) (o : Option A) (v : Violation) (f : A → Checked B) → (o ≡ None → Q v) → ((a : A) → o ≡ Some a → Stops Q (f a))
    → Stops Q (known v o >>= f)
known_stops Q (Some a) v f q k = k a refl
known_stops Q None v f q k = ends Q v (q refl)

falsehood : (b : Truth) → b ≡ false → b ≡ true → ⊥
falsehood true e f = cc
falsehood false e f = cc

pub differs : (a b : Kind) → same_kind a b ≡ false → Differ a b
differs a b e same = falsehood (same_kind a b) e (subst (λ k. same_kind a k ≡ true) same (same_refl a))

pub wanted_stops : {B : Type 0} (Q : Violation → Type 0) (kind : Kind) (p : Placed) (t : Checked B) → (Differ kind p.kind → Q (wrong_type p)) → (kind ≡ p.kind → Stops Q t)
    → Stops Q (wanted kind p >> t)
wanted_stops Q kind p t q k = must_stops Q (same_kind kind p.kind) (wrong_type p) t (λ e. q (differs kind p.kind e)) (λ e. k (same_sound kind p.kind e))

-- steps that are grouped to the left, in order
pub in_order : {B : Type 0} (Q : Violation → Type 0) (r s : Checked (Unit {0})) (t : Checked B) → Stops Q (r >> (s >> t)) → Stops Q (r >> s >> t)
in_order Q (Ok u) s t h = h
in_order Q (Err v) s t h = ends Q v (h.by v refl)

pub bind_in_order : {A B : Type 0} (Q : Violation → Type 0) (r : Checked (Unit {0})) (s : Checked A) (f : A → Checked B) → Stops Q (r >> (s >>= f)) → Stops Q (r >> s >>= f)
bind_in_order Q (Ok u) s f h = h
bind_in_order Q (Err v) s f h = ends Q v (h.by v refl)

-- a test that fails
pub undecided : (b : Truth) → (b ≡ true → ⊥) → b ≡ false
undecided true h = absurd (h refl)
undecided false h = refl

pub wanted_not : (kind : Kind) (p : Placed) → Differ kind p.kind → wanted kind p ≡ Err (wrong_type p)
wanted_not kind p differ = rw (undecided (same_kind kind p.kind) (λ e. differ (same_sound kind p.kind e))) refl

-- two parts in order
pub order_stops : (First : Violation → Type 0) (Right : Type 0) (Second : Violation → Type 0) (r t : Checked (Unit {0})) → Stops First r → (r ≡ Ok tt → Right) → Stops Second t
    → Stops (InOrder First Right Second) (r >> t)
order_stops First Right Second r t s right q =
    then_stops _ r t (weaker First _ r (λ v b. first v b) s) (λ e. weaker Second _ t (λ v b. second v (right e) b) q)

pub so_order : (First : Violation → Type 0) (Right : Type 0) (Second : Violation → Type 0) (r t : Checked (Unit {0})) → ((v : Violation) → First v → r ≡ Err v) → (Right → r ≡ Ok tt)
    → ((v : Violation) → Second v → t ≡ Err v) → (v : Violation) → InOrder First Right Second v → (r >> t) ≡ Err v
so_order First Right Second r t f g h _ (first v b) = rw (f v b) refl
so_order First Right Second r t f g h _ (second v right b) = rw (g right) (h v b)

-- a list of parts in order, whose check goes along it
pub list_stops : {A : Type 0} (Right : A → Type 0) (Broken : A → Violation → Type 0) (check : A → Checked (Unit {0})) (all : List A → Checked (Unit {0}))
    → all [] ≡ Ok tt → ((a : A) (others : List A) → all (a ∷ others) ≡ (check a >> all others)) → ((a : A) → Stops (Broken a) (check a)) → ((a : A) → check a ≡ Ok tt → Right a)
    → (others : List A) → Stops (InList Right Broken others) (all others)
list_stops Right Broken check all end step stop right [] = subst (Stops _) (sym end) (passes _ tt)
list_stops Right Broken check all end step stop right (a ∷ others) =
    subst (Stops _) (sym (step a others)) (then_stops _ (check a) (all others) (weaker _ _ (check a) (λ v b. item a others v b) (stop a))
    (λ e. weaker _ _ (all others) (λ v b. later_item a others v (right a e) b) (list_stops Right Broken check all end step stop right others)))

pub so_list : {A : Type 0} (Right : A → Type 0) (Broken : A → Violation → Type 0) (check : A → Checked (Unit {0})) (all : List A → Checked (Unit {0}))
    → ((a : A) (others : List A) → all (a ∷ others) ≡ (check a >> all others)) → ((a : A) (v : Violation) → Broken a v → check a ≡ Err v) → ((a : A) → Right a → check a ≡ Ok tt)
    → (others : List A) (v : Violation) → InList Right Broken others v → all others ≡ Err v
so_list Right Broken check all step so right _ _ (item a others v b) = step a others ∙ ap (λ r. r >> all others) (so a v b)
so_list Right Broken check all step so right _ _ (later_item a others v h b) = step a others ∙ ap (λ r. r >> all others) (right a h) ∙ so_list Right Broken check all step so right others v b

-- members in order, each by its name first
pub members_stop : {A : Type 0} (at : A → ℕ) (name : A → List ℕ) (Right : A → Type 0) (Broken : A → Violation → Type 0) (check : A → Checked (Unit {0})) (all : List (List ℕ) → List A → Checked (Unit {0}))
    → ((before : List (List ℕ)) → all before [] ≡ Ok tt)
    → ((before : List (List ℕ)) (m : A) (ms : List A) → all before (m ∷ ms) ≡ (new_name before (at m) (name m) >> check m >> all (before ++ name m ∷ []) ms))
    → ((m : A) → Stops (Broken m) (check m)) → ((m : A) → check m ≡ Ok tt → Right m)
    → (before : List (List ℕ)) (ms : List A) → Stops (InMembers at name Right Broken before ms) (all before ms)
members_stop at name Right Broken check all end step stop right before [] = subst (Stops _) (sym (end before)) (passes _ tt)
members_stop at name Right Broken check all end step stop right before (m ∷ ms) =
    let rest = all (before ++ name m ∷ []) ms in
    subst (Stops _) (sym (step before m ms))
    (in_order _ (must (is_new (name m) before) (NameTaken (at m))) (check m) rest
    (must_stops _ (is_new (name m) before) (NameTaken (at m)) (check m >> rest) (λ e. name_taken before m ms e)
    (λ e. then_stops _ (check m) rest (weaker _ _ (check m) (λ v b. member before m ms v e b) (stop m))
    (λ h. weaker _ _ rest (λ v b. later_member before m ms v e (right m h) b) (members_stop at name Right Broken check all end step stop right (before ++ name m ∷ []) ms)))))

pub so_members : {A : Type 0} (at : A → ℕ) (name : A → List ℕ) (Right : A → Type 0) (Broken : A → Violation → Type 0) (check : A → Checked (Unit {0})) (all : List (List ℕ) → List A → Checked (Unit {0}))
    → ((before : List (List ℕ)) (m : A) (ms : List A) → all before (m ∷ ms) ≡ (new_name before (at m) (name m) >> check m >> all (before ++ name m ∷ []) ms))
    → ((m : A) (v : Violation) → Broken m v → check m ≡ Err v) → ((m : A) → Right m → check m ≡ Ok tt)
    → (before : List (List ℕ)) (ms : List A) (v : Violation) → InMembers at name Right Broken before ms v → all before ms ≡ Err v
so_members at name Right Broken check all step so right _ _ _ (name_taken before m ms e) = step before m ms ∙ rw e refl
so_members at name Right Broken check all step so right _ _ _ (member before m ms v e b) = step before m ms ∙ rw e (rw (so m v b) refl)
so_members at name Right Broken check all step so right _ _ _ (later_member before m ms v e h b) =
    step before m ms ∙ rw e (rw (right m h) (so_members at name Right Broken check all step so right (before ++ name m ∷ []) ms v b))
