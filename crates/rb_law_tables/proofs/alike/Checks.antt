-- Checks that both pass or both don't, whatever the positions are that they tell.
use Rattle.std.proofs.Common.{◌≡◌, ℕ, List, [], ◌∷◌, length, suc, Bool, true, false, Option, Some, None, option_map, Ok, Err, refl, sym, ap, subst, ◌∙◌}
use Rattle.rb_trees.specs.Outcome.{◌>>=◌, ◌>>◌, known, must}
use Rattle.rb_meaning_types.specs.Kinds.{Kind, same_kind}
use Rattle.rb_meaning_types.specs.Violations.{Violation, Checked, Placed, with_place, wanted, wrong_type}

-- Both pass, and what they give stands in the relation; or neither does.
pub data Alike {A B : Type 0} (R : A → B → Type 0) : Checked A → Checked B → Type 0 where
  pass : {x : A} {y : B} → R x y → Alike R (Ok x) (Ok y)
  fail : {v w : Violation} → Alike R (Err v) (Err w)

-- they give the same
abbrev pub Same : {A : Type 0} → A → A → Type 0
Same x y = x ≡ y

-- types at any places
abbrev pub SameKind : Placed → Placed → Type 0
SameKind p q = p.kind ≡ q.kind

abbrev pub SameKinds : List Placed → List Placed → Type 0
SameKinds [] [] = Unit {0}
SameKinds [] (q ∷ qs) = ⊥
SameKinds (p ∷ ps) [] = ⊥
SameKinds (p ∷ ps) (q ∷ qs) = SameKind p q × SameKinds ps qs

module _ {A B C D : Type 0} {R : A → B → Type 0} {S : C → D → Type 0} where
  pub bind_alike : {a : Checked A} {b : Checked B} {f : A → Checked C} {g : B → Checked D} → Alike R a b → ((x : A) (y : B) → R x y → Alike S (f x) (g y)) → Alike S (a >>= f) (b >>= g)
  bind_alike (pass {x} {y} r) h = h x y r
  bind_alike fail h = fail

pub then_alike : {C D : Type 0} {S : C → D → Type 0} {a b : Checked (Unit {0})} {c : Checked C} {d : Checked D} → Alike Same a b → Alike S c d → Alike S (a >> c) (b >> d)
then_alike (pass r) h = h
then_alike fail h = fail

pub must_alike : (b c : Bool) (v w : Violation) → b ≡ c → Alike Same (must b v) (must c w)
must_alike true true v w e = pass refl
must_alike true false v w e = absurd (cc)
must_alike false true v w e = absurd (cc)
must_alike false false v w e = fail

-- what is found, and its image
pub known_alike : {A B : Type 0} (f : A → B) (o : Option A) (p : Option B) (v w : Violation) → p ≡ option_map f o → Alike (λ x y. y ≡ f x) (known v o) (known w p)
known_alike f None None v w e = fail
known_alike f None (Some y) v w e = absurd (cc)
known_alike f (Some x) None v w e = absurd (cc)
known_alike f (Some x) (Some y) v w e = pass (cc)

pub placed_alike : {a b : Checked Kind} (at here : ℕ) → Alike Same a b → Alike SameKind (with_place at a) (with_place here b)
placed_alike at here (pass e) = pass e
placed_alike at here fail = fail

-- a test of a type at one place and at another
pub tested_alike : (test : Kind → Bool) (p q : Placed) (v w : Violation) → SameKind p q → Alike Same (must (test p.kind) v) (must (test q.kind) w)
tested_alike test p q v w e = must_alike (test p.kind) (test q.kind) v w (ap test e)

pub wanted_alike : (kind other : Kind) (p q : Placed) → kind ≡ other → SameKind p q → Alike Same (wanted kind p) (wanted other q)
wanted_alike kind other p q k e = must_alike (same_kind kind p.kind) (same_kind other q.kind) (wrong_type p) (wrong_type q) (ap (λ x. same_kind x p.kind) k ∙ ap (same_kind other) e)

-- a check by a type, at one place and at another
pub by_kind : {A B : Type 0} (R : A → B → Type 0) (f : Kind → Checked A) (g : Kind → Checked B) (p q : Placed) → SameKind p q → ((kind : Kind) → Alike R (f kind) (g kind)) → Alike R (f p.kind) (g q.kind)
by_kind R f g p q e h = subst (λ k. Alike R (f p.kind) (g k)) e (h p.kind)

pub same_length : (ps qs : List Placed) → SameKinds ps qs → length ps ≡ length qs
same_length [] [] h = refl
same_length [] (q ∷ qs) h = absurd h
same_length (p ∷ ps) [] h = absurd h
same_length (p ∷ ps) (q ∷ qs) h = ap suc (same_length ps qs h.1)

-- what passes, if the other does
pub passes_too : {A B : Type 0} {R : A → B → Type 0} {a : Checked A} {b : Checked B} {x : A} → Alike R a b → a ≡ Ok x → (y : B) × (b ≡ Ok y)
passes_too (pass {y = y} r) e = (y, refl)
passes_too fail e = absurd (cc)

pub other_way : {A : Type 0} {a b : Checked A} → Alike Same a b → Alike Same b a
other_way (pass r) = pass (sym r)
other_way fail = fail
