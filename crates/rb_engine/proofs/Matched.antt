-- Parameters matched with values, one after the other.
use Rattle.std.proofs.Common.{◌≡◌, ℕ, zero, suc, ◌+◌, ◌<◌, List, [], ◌∷◌, map, drop, length, get_or, refl, ap, sym, ◌∙◌, arith}
use Rattle.std.specs.Prelude.{None, Some, slice_get}
use Rattle.std.proofs.lemmas.Grind.{common_steps}
use Rattle.rb_trees.specs.declared.values.Value.{Value}
use Rattle.rb_trees.specs.declared.declarations.Param.{Param}
use Rattle.rb_trees.specs.mirror.Declarations as mirror
use Rattle.rb_trees.specs.mirror.Declarations.{mirror_param}
use Rattle.rb_meaning_code.specs.Objects.{matched}

-- one of each
one_matched : (ps : List Param) (vs : List Value) (i : ℕ) (p : Param) (v : Value) → i < length ps → p ≡ get_or ps i p → slice_get vs i ≡ Some v
    → matched (map mirror_param (drop i ps)) (drop i vs) ≡ (p.name, v) ∷ matched (map mirror_param (drop (suc i) ps)) (drop (suc i) vs)
one_matched [] vs i p v l e f = absurd (omega arith)
one_matched (q ∷ ps) [] i p v l e f = absurd (cc f)
one_matched (q ∷ ps) (w ∷ vs) zero p v l e f =
    let same : w ≡ v = cc f in
    ap (λ x. (q.name, x) ∷ matched (map mirror_param ps) vs) same ∙ ap (λ x. (x.name, v) ∷ matched (map mirror_param ps) vs) (sym e)
one_matched (q ∷ ps) (w ∷ vs) (suc i) p v l e f = one_matched ps vs i p v (omega arith) e f

pub matched_more : (ps : List Param) (vs : List Value) (i : ℕ) (p : Param) (v : Value) → i < length ps → p ≡ get_or ps i p → slice_get vs i ≡ Some v
    → matched (map mirror_param (drop i ps)) (drop i vs) ≡ (p.name, v) ∷ matched (map mirror_param (drop (i + 1) ps)) (drop (i + 1) vs)
matched_more ps vs i p v l e f =
    let next : suc i ≡ i + 1 = omega arith in
    one_matched ps vs i p v l e f ∙ ap (λ n. (p.name, v) ∷ matched (map mirror_param (drop n ps)) (drop n vs)) next

none_matched : (ps : List mirror.Param) → matched ps [] ≡ []
none_matched [] = refl
none_matched (p ∷ ps) = refl

-- no value is left
pub matched_out : (ps : List Param) (vs : List Value) (i : ℕ) → slice_get vs i ≡ None → matched (map mirror_param (drop i ps)) (drop i vs) ≡ []
matched_out ps [] zero e = none_matched (map mirror_param (drop zero ps))
matched_out ps [] (suc i) e = none_matched (map mirror_param (drop (suc i) ps))
matched_out ps (v ∷ vs) zero e = absurd (cc e)
matched_out [] (v ∷ vs) (suc i) e = refl
matched_out (p ∷ ps) (v ∷ vs) (suc i) e = matched_out ps vs i e

pub ruleset matches = (matched_more, matched_out, common_steps)
