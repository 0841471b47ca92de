-- Arguments that the service takes, one by one.
use Rattle.std.proofs.Common.{◌≡◌, refl, ap, ◌∙◌, ℕ, zero, suc, ◌+◌, ◌<◌, ◌≤◌, arith, List, [], ◌∷◌, ◌++◌, append-nil, length, map, drop, get_or}
use Rattle.std.proofs.lemmas.List.{drop_all}
use Rattle.std.specs.Prelude.{Option, None, Some, slice_get}
use Rattle.std.proofs.lemmas.Grind.{common_steps}
use Rattle.rb_trees.specs.declared.values.Value.{Value, out-Value}
use Rattle.rb_trees.specs.declared.services.Object.{Object}
use Rattle.rb_trees.specs.declared.declarations.Param.{Param}
use Rattle.rb_trees.specs.mirror.Types.{mirror_type}
use Rattle.rb_trees.specs.mirror.Declarations as mirror
use Rattle.rb_trees.specs.mirror.Declarations.{mirror_param}
use Rattle.rb_meaning_code.specs.Remote.{taken_as, taken_all}
use Rattle.rb_engine.proofs.Loops.{dropped_one}
use Rattle.rb_engine.proofs.Items.{first_and, after, after_none, after_one}

-- the arguments from a place on
abbrev pub taken_from : List Object → ℕ → List Param → List Value → Option (List Value)
taken_from table i ps vs = taken_all table (map mirror_param (drop i ps)) (drop i vs)

one_argument : (vs : List Value) (i : ℕ) (v : Value) → slice_get vs i ≡ Some v → drop i vs ≡ v ∷ drop (suc i) vs
one_argument [] i v e = absurd (cc e)
one_argument (w ∷ vs) zero v e = let same : w ≡ v = cc e in ap (λ x. x ∷ vs) same
one_argument (w ∷ vs) (suc i) v e = one_argument vs i v e

taken_on : (table : List Object) (ps : List Param) (vs : List Value) (i : ℕ) (p : Param) (v : Value) → i < length ps → p ≡ get_or ps i p → slice_get vs i ≡ Some v
    → taken_from table i ps vs ≡ first_and (taken_as table (mirror_type p.kind) (out-Value v)) (taken_from table (i + 1) ps vs)
taken_on table ps vs i p v l e is =
    let next : suc i ≡ i + 1 = omega arith in
    ap (λ xs. taken_all table (map mirror_param xs) (drop i vs)) (dropped_one ps i p l e)
    ∙ ap (λ xs. taken_all table (map mirror_param (p ∷ drop (i + 1) ps)) xs) (one_argument vs i v is ∙ ap (λ n. v ∷ drop n vs) next)

pub taken_more : (table : List Object) (os : List Value) (ps : List Param) (vs : List Value) (i : ℕ) (p : Param) (v w : Value) → i < length ps → p ≡ get_or ps i p → slice_get vs i ≡ Some v
    → taken_as table (mirror_type p.kind) (out-Value v) ≡ Some w → after os (taken_from table i ps vs) ≡ after (os ++ w ∷ []) (taken_from table (i + 1) ps vs)
taken_more table os ps vs i p v w l e is t =
    ap (after os) (taken_on table ps vs i p v l e is ∙ ap (λ o. first_and o (taken_from table (i + 1) ps vs)) t) ∙ after_one os w (taken_from table (i + 1) ps vs)

pub taken_missing : (table : List Object) (os : List Value) (ps : List Param) (vs : List Value) (i : ℕ) (p : Param) (v : Value) → i < length ps → p ≡ get_or ps i p → slice_get vs i ≡ Some v
    → taken_as table (mirror_type p.kind) (out-Value v) ≡ None → after os (taken_from table i ps vs) ≡ None
taken_missing table os ps vs i p v l e is t =
    ap (after os) (taken_on table ps vs i p v l e is ∙ ap (λ o. first_and o (taken_from table (i + 1) ps vs)) t)

-- no argument is left for a parameter
no_argument : (vs : List Value) (i : ℕ) → slice_get vs i ≡ None → drop i vs ≡ []
no_argument [] zero e = refl
no_argument [] (suc i) e = refl
no_argument (v ∷ vs) zero e = absurd (cc e)
no_argument (v ∷ vs) (suc i) e = no_argument vs i e

pub taken_out : (table : List Object) (os : List Value) (ps : List Param) (vs : List Value) (i : ℕ) (p : Param) → i < length ps → p ≡ get_or ps i p → slice_get vs i ≡ None
    → after os (taken_from table i ps vs) ≡ None
taken_out table os ps vs i p l e is =
    ap (λ xs. after os (taken_all table (map mirror_param (drop i ps)) xs)) (no_argument vs i is)
    ∙ ap (λ xs. after os (taken_all table (map mirror_param xs) [])) (dropped_one ps i p l e)

none_after : (o : Option Value) → first_and o None ≡ None
none_after None = refl
none_after (Some w) = refl

-- another count of arguments
pub taken_uneven : (table : List Object) (ps : List Param) (vs : List Value) → (length ps ≡ length vs → ⊥) → taken_all table (map mirror_param ps) vs ≡ None
taken_uneven table [] [] h = absurd (h refl)
taken_uneven table [] (v ∷ vs) h = refl
taken_uneven table (p ∷ ps) [] h = refl
taken_uneven table (p ∷ ps) (v ∷ vs) h =
    ap (first_and (taken_as table (mirror_type p.kind) (out-Value v))) (taken_uneven table ps vs (λ e. h (ap suc e))) ∙ none_after (taken_as table (mirror_type p.kind) (out-Value v))

-- all are taken
pub taken_whole : (table : List Object) (os : List Value) (ps : List Param) (vs : List Value) (i : ℕ) → length ps ≡ length vs → length ps ≤ i → after os (taken_from table i ps vs) ≡ Some os
taken_whole table os ps vs i e l =
    let few : length vs ≤ i = omega arith in
    ap (λ xs. after os (taken_all table (map mirror_param xs) (drop i vs))) (drop_all i ps l)
    ∙ ap (λ xs. after os (taken_all table [] xs)) (drop_all i vs few)
    ∙ ap Some (append-nil os)

pub ruleset taken_so = (after_none, taken_more, taken_missing, taken_out, taken_uneven, taken_whole, common_steps)

counted_first : (o : Option Value) (p : Option (List Value)) (ws : List Value) (n : ℕ) → ((xs : List Value) → p ≡ Some xs → n ≡ length xs) → first_and o p ≡ Some ws → suc n ≡ length ws
counted_first None p ws n more e = absurd (cc e)
counted_first (Some w) None ws n more e = absurd (cc e)
counted_first (Some w) (Some xs) ws n more e = let same : w ∷ xs ≡ ws = cc e in ap suc (more xs refl) ∙ ap length same

-- As many are taken as there are parameters.
pub taken_count : (table : List Object) (ps : List mirror.Param) (vs ws : List Value) → taken_all table ps vs ≡ Some ws → length ps ≡ length ws
taken_count table [] [] ws e = let same : [] ≡ ws = cc e in ap length same
taken_count table [] (v ∷ vs) ws e = absurd (cc e)
taken_count table (p ∷ ps) [] ws e = absurd (cc e)
taken_count table (p ∷ ps) (v ∷ vs) ws e = counted_first (taken_as table p.kind (out-Value v)) (taken_all table ps vs) ws (length ps) (taken_count table ps vs) e
