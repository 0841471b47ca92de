-- How replies follow one another, where the code gets them one by one.
use Rattle.std.proofs.Common.{◌≡◌, inl, inr, refl, sym, ap, ◌∙◌, subst, ℕ, ◌+◌, ◌<◌, ◌≤◌, List, [], ◌∷◌, ◌++◌, append_assoc, append-nil, length, drop, get_or}
use Rattle.std.proofs.lemmas.List.{drop_all}
use Rattle.std.specs.Prelude.{Result, Ok, Err, MatchResult}
use Rattle.rb_trees.specs.Outcome.{Gives}
use Rattle.rb_trees.specs.declared.values.Value.{Value}
use Rattle.rb_trees.specs.declared.values.Fault.{Fault}
use Rattle.rb_engine.specs.Ends.{fault_of}
use Rattle.rb_engine.specs.declared.ends.Failure.{Failure}
use Rattle.rb_engine.specs.declared.ends.Failure.TheVariants as failure
use Rattle.rb_meaning_code.specs.Remote.{Server, Reply, Got, Stopped, and_then, replies}
use Rattle.rb_engine.specs.Misses.{AtPlace, Means, MissesBy, Replied}
use Rattle.rb_trees.specs.declared.scripts.SExpr.{SExpr}
use Rattle.rb_trees.specs.mirror.Scripts as script
use Rattle.rb_trees.specs.mirror.Scripts.{mirror_sexpr}
use Rattle.rb_exec.specs.Stages.{scope_run, value_run, values_run}
use Rattle.rb_exec.specs.declared.expressions.Scope.{Scope}
use Rattle.rb_exec.proofs.Dropped.{dropped_one}
use Rattle.rb_engine.specs.declared.misses.Miss.{Miss}
use Rattle.rb_engine.specs.declared.misses.Miss.TheVariants as miss

pub by_result : {A : Type 0} {m : Reply A} {r r1 : Result A Miss} {s : Server} → r ≡ r1 → Replied m r1 s → Replied m r s
by_result {m = m} {s = s} e h = subst (λ x. Replied m x s) (sym e) h

pub as_meant : {A : Type 0} {m m1 : Reply A} {r : Result A Miss} {s : Server} → m ≡ m1 → Replied m1 r s → Replied m r s
as_meant {r = r} {s = s} e h = subst (λ x. Replied x r s) (sym e) h

-- what a reply is that gave a value
pub got : {A : Type 0} {m : Reply A} {t : Result A Miss} {s : Server} {a : A} → Replied m t s → t ≡ Ok a → m ≡ Got a s
got {m = m} {s = s} h is = subst (λ x. Means m x s) is h.means

pub given : {A : Type 0} {m : Reply A} {a : A} {s : Server} → m ≡ Got a s → Replied m (Ok a) s
given e = record { means = e }

-- for want of memory nothing is said
pub want : {A : Type 0} {m : Reply A} {r : Result A Miss} {h : Miss} {s : Server} → r ≡ Err h → h ≡ miss.Memory → Replied m r s
want is e = by_result (is ∙ ap Err e) (record { means = tt })

-- a reply gave a value, and the next one follows
pub went : {A B : Type 0} {m : Reply A} {t : Result A Miss} {s1 s2 : Server} {a : A} {r : Result B Miss} (k : A → Server → Reply B)
    → Replied m t s1 → t ≡ Ok a → Replied (k a s1) r s2 → Replied (and_then m k) r s2
went k h is n = as_meant (ap (λ x. and_then x k) (got h is)) n

missed_by : {A B : Type 0} (h : Miss) (m : Reply A) (s : Server) (k : A → Server → Reply B) → Means m (Err h) s → Replied (and_then m k) (Err h) s
missed_by (miss.Fault at f) m s k e = record { means = ap (λ x. and_then x k) e }
missed_by miss.Memory m s k e = record { means = tt }

-- a reply gave none, and nothing follows
pub missed : {A B : Type 0} {m : Reply A} {t : Result A Miss} {s1 : Server} {h : Miss} {r : Result B Miss} (k : A → Server → Reply B)
    → Replied m t s1 → t ≡ Err h → r ≡ Err h → Replied (and_then m k) r s1
missed {m = m} {s1 = s1} {h = h} k f is e = by_result e (missed_by h m s1 k (subst (λ x. Means m x s1) is f.means))

-- a fault at a position, or want of memory
missed_at : {A : Type 0} {m : Reply A} {s : Server} (at : ℕ) (f : Fault) (t : Result A Miss) → MatchResult t (λ a. ⊥) (MissesBy at f) → m ≡ Stopped at f s → Replied m t s
missed_at at f (Ok a) is e = absurd is
missed_at at f (Err h) (inl is) e = by_result (ap Err is) (record { means = e })
missed_at at f (Err h) (inr is) e = by_result (ap Err is) (record { means = tt })

-- what a rule gives at a position
pub ruled : {A : Type 0} {t : Result A Miss} {s : Server} (at : ℕ) (o : Result A Failure) (d : Result A Fault) → Gives (λ a. a) fault_of o d → AtPlace at o t → Replied (replies at d s) t s
ruled {s = s} at (Ok a) d g is = by_result is (record { means = ap (λ x. replies at x s) g })
ruled {t = t} {s = s} at (Err (failure.Fault f)) d g is = missed_at at f t is (ap (λ x. replies at x s) g)
ruled at (Err failure.Memory) d g is = by_result is (record { means = tt })

-- values that were gained, and those that follow
abbrev pub after : List Value → Reply (List Value) → Reply (List Value)
after vs m = and_then m (λ ws s. Got (vs ++ ws) s)

pub after_none : (m : Reply (List Value)) → m ≡ after [] m
after_none (Got ws s) = refl
after_none (Stopped at f s) = refl

pub after_one : (vs : List Value) (v : Value) (m : Reply (List Value)) → after vs (and_then m (λ ws s. Got (v ∷ ws) s)) ≡ after (vs ++ v ∷ []) m
after_one vs v (Got ws s) = ap (λ x. Got x s) (sym (append_assoc vs (v ∷ []) ws))
after_one vs v (Stopped at f s) = refl

-- a value is missing among others
missed_far : {A : Type 0} {m : Reply A} {t : Result A Miss} {s1 : Server} {h : Miss} {r : Result (List Value) Miss} (vs : List Value) (k : A → Server → Reply (List Value))
    → Replied m t s1 → t ≡ Err h → r ≡ Err h → Replied (after vs (and_then m k)) r s1
missed_far vs k d is e = missed (λ ws s. Got (vs ++ ws) s) (missed k d is refl) refl e

-- the values of expressions from a place on, one by one
values_on : (here : Scope) (es : List SExpr) (i : ℕ) (e : SExpr) (s : Server) → i < length es → e ≡ get_or es i e
    → values_run here (drop i es) s ≡ and_then (value_run here e s) (λ v s1. and_then (values_run here (drop (i + 1) es) s1) (λ vs s2. Got (v ∷ vs) s2))
values_on here es i e s l is = ap (λ xs. values_run here xs s) (dropped_one es i e l is)

pub value_more : {t : Result Value Miss} {v : Value} {s1 : Server} {vs1 : List Value} (s : Server) (vs : List Value) (here : Scope) (es : List SExpr) (i : ℕ) (e : SExpr) → i < length es → e ≡ get_or es i e
    → Replied (value_run here e s) t s1 → t ≡ Ok v → vs1 ≡ vs ++ v ∷ [] → after vs (values_run here (drop i es) s) ≡ after vs1 (values_run here (drop (i + 1) es) s1)
value_more {v = v} {s1 = s1} s vs here es i e l is h was more =
    ap (after vs) (values_on here es i e s l is ∙ ap (λ x. and_then x (λ w s2. and_then (values_run here (drop (i + 1) es) s2) (λ ws s3. Got (w ∷ ws) s3))) (got h was))
    ∙ after_one vs v (values_run here (drop (i + 1) es) s1)
    ∙ ap (λ xs. after xs (values_run here (drop (i + 1) es) s1)) (sym more)

pub value_missing : {t : Result Value Miss} {h : Miss} {s1 : Server} {whole : Reply (List Value)} {r : Result (List Value) Miss} (s : Server) (vs : List Value) (here : Scope) (es : List SExpr) (i : ℕ) (e : SExpr) → i < length es → e ≡ get_or es i e
    → Replied (value_run here e s) t s1 → t ≡ Err h → r ≡ Err h → after vs (values_run here (drop i es) s) ≡ whole → Replied whole r s1
value_missing s vs here es i e l is d was so same =
    as_meant (sym same ∙ ap (after vs) (values_on here es i e s l is)) (missed_far vs _ d was so)

pub values_done : {s : Server} {vs : List Value} {whole : Reply (List Value)} (here : Scope) (es : List SExpr) (i : ℕ) → length es ≤ i
    → after vs (values_run here (drop i es) s) ≡ whole → Replied whole (Ok vs) s
values_done {s = s} {vs = vs} here es i l same =
    given (sym same ∙ ap (λ xs. after vs (values_run here xs s)) (drop_all i es l) ∙ ap (λ xs. Got xs s) (append-nil vs))

-- an expression of a known form
pub of_form : {r : Result Value Miss} {s1 : Server} {m : script.SExpr} (here : Scope) (s : Server) (e : SExpr) → mirror_sexpr e ≡ m → Replied (scope_run here m s) r s1
    → Replied (value_run here e s) r s1
of_form here s e is h = as_meant (ap (λ x. scope_run here x s) is) h
