-- What becomes of arguments in their slots.
use Rattle.std.proofs.Common.{◌≡◌, ℕ, zero, suc, ◌+◌, ◌-◌, ◌<◌, List, [], ◌∷◌, ◌++◌, map, take, length, get_or, refl, ap, sym, ◌∙◌, arith}
use Rattle.std.specs.Prelude.{None, Some, slice_get, slice_set}
use Rattle.std.proofs.lemmas.Grind.{common_steps}
use Rattle.rb_trees.specs.declared.values.Value.{Value}
use Rattle.rb_trees.specs.declared.declarations.Param.{Param}
use Rattle.rb_trees.specs.mirror.Declarations.{mirror_param}
use Rattle.rb_meaning_code.specs.Objects.{matched}
use Rattle.rb_meaning_code.specs.Calls.{names_within}
use Rattle.rb_meaning_code.specs.State.{this_name}
use Rattle.rb_engine.specs.Slots.{values_after, all_renamed, renamed}

abbrev Slot : Type 0
Slot = List ℕ × Value

-- one more value
one_after : (ss : List Slot) (s : Slot) → map (λ n. n.1) (ss ++ s ∷ []) ≡ map (λ n. n.1) ss ++ s.1 ∷ []
one_after [] s = refl
one_after (t ∷ ss) s = ap (λ vs. t.1 ∷ vs) (one_after ss s)

pub pushed_after : (ss : List Slot) (s : Slot) → 0 < length ss → values_after (ss ++ s ∷ []) ≡ values_after ss ++ s.1 ∷ []
pushed_after [] s l = absurd (omega arith)
pushed_after (t ∷ ss) s l = one_after ss s

map_long : (ss : List Slot) → length (map (λ n. n.1) ss) ≡ length ss
map_long [] = refl
map_long (s ∷ ss) = ap suc (map_long ss)

pub length_after : (ss : List Slot) → length (values_after ss) ≡ length ss - 1
length_after [] = let none : 0 ≡ 0 - 1 = omega arith in none
length_after (s ∷ ss) = let long : length (map (λ n. n.1) ss) ≡ length ss = map_long ss in omega arith

pub ruleset values = (pushed_after, length_after, common_steps)

-- a slot is given a name
set_next : (ps : List Param) (ss : List Slot) (i : ℕ) (p : Param) (s : Slot) → i < length ps → p ≡ get_or ps i p → slice_get (all_renamed (map mirror_param (take i ps)) ss) i ≡ Some s
    → slice_set (all_renamed (map mirror_param (take i ps)) ss) i (p.name, s.1) ≡ all_renamed (map mirror_param (take (suc i) ps)) ss
set_next [] ss i p s l e f = absurd (omega arith)
set_next (q ∷ ps) [] zero p s l e f = absurd (cc f)
set_next (q ∷ ps) [] (suc i) p s l e f = absurd (cc f)
set_next (q ∷ ps) (t ∷ ss) zero p s l e f = let same : t ≡ s = cc f in ap (λ x. (p.name, x.1) ∷ ss) (sym same) ∙ ap (λ x. (x.name, t.1) ∷ ss) e
set_next (q ∷ ps) (t ∷ ss) (suc i) p s l e f = ap (λ xs. (q.name, t.1) ∷ xs) (set_next ps ss i p s (omega arith) e f)

behind : (ss : List Slot) (t : Slot) (i : ℕ) → slice_get (t ∷ ss) (i + 1) ≡ slice_get ss i
behind ss t i = let next : i + 1 ≡ suc i = omega arith in ap (slice_get (t ∷ ss)) next

set_behind : (ss : List Slot) (t s : Slot) (i : ℕ) → slice_set (t ∷ ss) (i + 1) s ≡ t ∷ slice_set ss i s
set_behind ss t s i = let next : i + 1 ≡ suc i = omega arith in ap (λ n. slice_set (t ∷ ss) n s) next

pub named_next : (ps : List Param) (all now : List Slot) (i : ℕ) (p : Param) (s : Slot) → i < length ps → p ≡ get_or ps i p → now ≡ renamed (map mirror_param (take i ps)) all → slice_get now (i + 1) ≡ Some s
    → slice_set now (i + 1) (p.name, s.1) ≡ renamed (map mirror_param (take (i + 1) ps)) all
named_next ps [] now i p s l e is f = let wrong = ap (λ xs. slice_get xs (i + 1)) (sym is) ∙ f in absurd (cc wrong)
named_next ps (t ∷ ss) now i p s l e is f =
    let next : suc i ≡ i + 1 = omega arith in
    let there : slice_get (all_renamed (map mirror_param (take i ps)) ss) i ≡ Some s = sym (behind (all_renamed (map mirror_param (take i ps)) ss) t i) ∙ ap (λ xs. slice_get xs (i + 1)) (sym is) ∙ f in
    ap (λ xs. slice_set xs (i + 1) (p.name, s.1)) is ∙ set_behind (all_renamed (map mirror_param (take i ps)) ss) t (p.name, s.1) i
    ∙ ap (λ xs. t ∷ xs) (set_next ps ss i p s l e there ∙ ap (λ n. all_renamed (map mirror_param (take n ps)) ss) next)

-- no slot is left
out_next : (ps : List Param) (ss : List Slot) (i : ℕ) → slice_get (all_renamed (map mirror_param (take i ps)) ss) i ≡ None → all_renamed (map mirror_param (take i ps)) ss ≡ all_renamed (map mirror_param ps) ss
out_next [] ss zero e = refl
out_next [] ss (suc i) e = refl
out_next (p ∷ ps) [] zero e = refl
out_next (p ∷ ps) [] (suc i) e = refl
out_next (p ∷ ps) (s ∷ ss) zero e = absurd (cc e)
out_next (p ∷ ps) (s ∷ ss) (suc i) e = ap (λ xs. (p.name, s.1) ∷ xs) (out_next ps ss i e)

pub named_out : (ps : List Param) (all now : List Slot) (i : ℕ) → now ≡ renamed (map mirror_param (take i ps)) all → slice_get now (i + 1) ≡ None → now ≡ renamed (map mirror_param ps) all
named_out ps [] now i is e = is
named_out ps (t ∷ ss) now i is e =
    is ∙ ap (λ xs. t ∷ xs) (out_next ps ss i (sym (behind (all_renamed (map mirror_param (take i ps)) ss) t i) ∙ ap (λ xs. slice_get xs (i + 1)) (sym is) ∙ e))

none_named : (all : List Slot) → all ≡ renamed [] all
none_named [] = refl
none_named (s ∷ ss) = refl

pub named_none : (ps : List Param) (all : List Slot) → all ≡ renamed (map mirror_param (take 0 ps)) all
named_none ps all = none_named all

pub ruleset names = (named_next, named_out, named_none, common_steps)

-- the frame that a method begins with
taken : (ps : List Param) (ss : List Slot) → take (length ps) (all_renamed (map mirror_param ps) ss) ≡ matched (map mirror_param ps) (map (λ n. n.1) ss)
taken [] ss = refl
taken (p ∷ ps) [] = refl
taken (p ∷ ps) (s ∷ ss) = ap (λ xs. (p.name, s.1) ∷ xs) (taken ps ss)

pub framed : (receiver : Value) (ps : List Param) (slots now : List Slot) (n : ℕ) → 0 < length slots → now ≡ renamed (map mirror_param ps) slots → n ≡ length ps + 1
    → take n (slice_set now 0 (this_name, receiver)) ≡ names_within receiver (map mirror_param ps) (values_after slots)
framed receiver ps [] now n l is m = absurd (omega arith)
framed receiver ps (s ∷ ss) now n l is m =
    let more : n ≡ suc (length ps) = omega arith in
    ap (λ xs. take n (slice_set xs 0 (this_name, receiver))) is ∙ ap (λ k. take k ((this_name, receiver) ∷ all_renamed (map mirror_param ps) ss)) more
    ∙ ap (λ xs. (this_name, receiver) ∷ xs) (taken ps ss)

-- there is no first slot to be given another name and value
pub unset : (slots : List Slot) (s : Slot) → slice_get slots 0 ≡ None → slots ≡ slice_set slots 0 s
unset [] s e = refl
unset (t ∷ ss) s e = absurd (cc e)
