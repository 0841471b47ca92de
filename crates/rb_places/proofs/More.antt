-- One item more at the end of a list.
use Rattle.std.proofs.Common.{◌≡◌, ◌+◌, ◌*◌, ℕ, suc, zero, List, [], ◌∷◌, ◌++◌, length, Some, slice_get, refl, arith, subst}
use Rattle.rb_places.specs.Noted.{AreNoted, IsPlace}
use Rattle.rb_places.specs.declared.places.Place.{Place}

-- what holds of each item by its place holds so with the last one
all_more : (Holds : ℕ → Place → Type 0) (ps : List Place) (p : Place) → ((k : ℕ) (q : Place) → slice_get ps k ≡ Some q → Holds k q) → Holds (length ps) p
    → (k : ℕ) (q : Place) → slice_get (ps ++ p ∷ []) k ≡ Some q → Holds k q
all_more Holds [] p all last zero q e = let same : p ≡ q = cc e in subst (λ x. Holds 0 x) same last
all_more Holds [] p all last (suc k) q e = absurd (cc e)
all_more Holds (first ∷ ps) p all last zero q e = all zero q e
all_more Holds (first ∷ ps) p all last (suc k) q e = all_more (λ j x. Holds (suc j) x) ps p (λ j x there. all (suc j) x there) last k q e

-- one place more is noted
pub noted_more : (text : List ℕ) (ps : List Place) (p : Place) → AreNoted text ps → IsPlace text (length ps * 64) p → AreNoted text (ps ++ p ∷ [])
noted_more text ps p noted place = all_more (λ k x. IsPlace text (k * 64) x) ps p noted place

-- there is one more
pub one_more : (ps : List Place) (p : Place) → length (ps ++ p ∷ []) ≡ length ps + 1
one_more [] p = refl
one_more (first ∷ ps) p = let rest : length (ps ++ p ∷ []) ≡ length ps + 1 = one_more ps p in grind (arith)
