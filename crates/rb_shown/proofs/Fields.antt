-- Names with their values, one after the other.
use Rattle.std.proofs.Common.{◌≡◌, ℕ, zero, suc, ◌+◌, ◌<◌, List, [], ◌∷◌, drop, length, get_or, None, Some, slice_get, refl, ap, sym, ◌∙◌, arith}
use Rattle.std.specs.List.{zip}
use Rattle.rb_shown.proofs.Pieces.{pieces}

-- one of each
one_zipped : {A B : Type 0} (ns : List A) (vs : List B) (i : ℕ) (n : A) (v : B) → i < length ns → n ≡ get_or ns i n → slice_get vs i ≡ Some v
    → zip (drop i ns) (drop i vs) ≡ (n, v) ∷ zip (drop (suc i) ns) (drop (suc i) vs)
one_zipped [] vs i n v l e f = absurd (omega arith)
one_zipped (m ∷ ns) [] i n v l e f = absurd (cc f)
one_zipped (m ∷ ns) (w ∷ vs) zero n v l e f = let same : w ≡ v = cc f in ap (λ x. (m, x) ∷ zip ns vs) same ∙ ap (λ x. (x, v) ∷ zip ns vs) (sym e)
one_zipped (m ∷ ns) (w ∷ vs) (suc i) n v l e f = one_zipped ns vs i n v (omega arith) e f

pub zipped_more : {A B : Type 0} (ns : List A) (vs : List B) (i : ℕ) (n : A) (v : B) → i < length ns → n ≡ get_or ns i n → slice_get vs i ≡ Some v
    → zip (drop i ns) (drop i vs) ≡ (n, v) ∷ zip (drop (i + 1) ns) (drop (i + 1) vs)
zipped_more ns vs i n v l e f = let next : suc i ≡ i + 1 = omega arith in one_zipped ns vs i n v l e f ∙ ap (λ k. (n, v) ∷ zip (drop k ns) (drop k vs)) next

none_zipped : {A B : Type 0} (ns : List A) → zip {X = B} ns [] ≡ []
none_zipped [] = refl
none_zipped (n ∷ ns) = refl

-- no value is left
pub zipped_out : {A B : Type 0} (ns : List A) (vs : List B) (i : ℕ) → slice_get vs i ≡ None → zip (drop i ns) (drop i vs) ≡ []
zipped_out ns [] zero e = none_zipped ns
zipped_out ns [] (suc i) e = none_zipped (drop (suc i) ns)
zipped_out ns (v ∷ vs) zero e = absurd (cc e)
zipped_out [] (v ∷ vs) (suc i) e = refl
zipped_out (n ∷ ns) (v ∷ vs) (suc i) e = zipped_out ns vs i e

pub ruleset fields = (zipped_more, zipped_out, pieces)
