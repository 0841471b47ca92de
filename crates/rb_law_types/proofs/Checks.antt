-- What it tells that a check passed.
use Rattle.std.proofs.Common.{◌≡◌, refl, ap, ℕ, Bool as Truth, true, false, Option, Some, None, Ok, Err}
use Rattle.std.proofs.lemmas.Slice.Eq.{bytes_eq-Decides}
use Rattle.rb_meaning_types.specs.Kinds.{Kind, Int, Bool, Text, Unit as UnitKind, Named, ListOf, RowsOf, same_kind}
use Rattle.rb_meaning_types.specs.Violations.{Violation, Checked, Placed, with_place, wanted, wrong_type}
use Rattle.rb_trees.specs.Outcome.{◌>>=◌, ◌>>◌, known, must}

pub bind_ok : {A B : Type 0} (r : Checked A) (f : A → Checked B) (y : B) → (r >>= f) ≡ Ok y → (a : A) × (r ≡ Ok a) × (f a ≡ Ok y)
bind_ok (Ok a) f y h = (a, refl, h)
bind_ok (Err e) f y h = absurd (cc (h))

pub then_ok : {B : Type 0} (r : Checked (Unit {0})) (s : Checked B) (y : B) → (r >> s) ≡ Ok y → (r ≡ Ok tt) × (s ≡ Ok y)
then_ok (Ok u) s y h = (refl, h)
then_ok (Err e) s y h = absurd (cc (h))

pub known_ok : {A : Type 0} (fault : Violation) (o : Option A) (x : A) → known fault o ≡ Ok x → o ≡ Some x
known_ok fault (Some y) x h = cc (h)
known_ok fault None x h = absurd (cc (h))

pub must_ok : (b : Truth) (fault : Violation) → must b fault ≡ Ok tt → b ≡ true
must_ok true fault h = refl
must_ok false fault h = absurd (cc (h))

pub placed_ok : {B : Type 0} (at : ℕ) (r : Checked Kind) (f : Placed → Checked B) (y : B) → (with_place at r >>= f) ≡ Ok y
    → (kind : Kind) × (r ≡ Ok kind) × (f (record { at = at; kind = kind }) ≡ Ok y)
placed_ok at (Ok kind) f y h = (kind, refl, h)
placed_ok at (Err e) f y h = absurd (cc (h))

pub same_sound : (a b : Kind) → same_kind a b ≡ true → a ≡ b
same_sound Int Int h = refl
same_sound Int b h = absurd (cc (h))
same_sound Bool Bool h = refl
same_sound Bool b h = absurd (cc (h))
same_sound Text Text h = refl
same_sound Text b h = absurd (cc (h))
same_sound UnitKind UnitKind h = refl
same_sound UnitKind b h = absurd (cc (h))
same_sound (Named name) (Named other) h = ap Named ((bytes_eq-Decides name other).0 h)
same_sound (Named name) b h = absurd (cc (h))
same_sound (ListOf item) (ListOf other) h = ap ListOf (same_sound item other h)
same_sound (ListOf item) b h = absurd (cc (h))
same_sound (RowsOf row) (RowsOf other) h = ap RowsOf (same_sound row other h)
same_sound (RowsOf row) b h = absurd (cc (h))

pub wanted_ok : (kind : Kind) (p : Placed) → wanted kind p ≡ Ok tt → kind ≡ p.kind
wanted_ok kind p h = same_sound kind p.kind (must_ok (same_kind kind p.kind) (wrong_type p) h)
