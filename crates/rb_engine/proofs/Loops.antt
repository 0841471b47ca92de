-- How lists of code and turns of loops lead on, one by one.
use Rattle.std.proofs.Common.{◌≡◌, refl, sym, ap, ◌∙◌, subst, ℕ, zero, suc, ◌+◌, ◌<◌, ◌≤◌, arith, List, [], ◌∷◌, ◌++◌, append_assoc, length, drop, get_or}
use Rattle.std.proofs.lemmas.List.{drop_all}
use Rattle.std.specs.Prelude.{Result, Ok, Err}
use Rattle.rb_trees.specs.declared.values.Value.{Value}
use Rattle.rb_trees.specs.declared.code.Expr as expr
use Rattle.rb_trees.specs.declared.code.Stmt as stmt
use Rattle.rb_trees.specs.declared.declarations.Class as class
use Rattle.rb_meaning_code.specs.State.{Names, Local, bound}
use Rattle.rb_meaning_code.specs.Dialogue.{Run, Surroundings, next, gives}
use Rattle.rb_meaning_code.specs.Statements.{block}
use Rattle.rb_engine.specs.Code.{value_run, values_run, stmt_run, stmts_run, scope_run, begin_run, turns_run}
use Rattle.rb_engine.specs.declared.targets.Turns.{Turns}
use Rattle.rb_engine.specs.declared.ends.End.{End}
use Rattle.rb_engine.specs.Meets.{Scene, Meets}
use Rattle.rb_engine.proofs.Runs.{gave, cut, ended, by_result, at_run, LeadsOn}

-- the values so far, and those that a run gives
abbrev pub after : {X : Type 0} → List Value → Result (List Value) (End X) → Result (List Value) (End X)
after vs (Ok ws) = Ok (vs ++ ws)
after vs (Err h) = Err h

abbrev pub as_is : {A : Type 0} → A → A
as_is r = r

after_nothing : {X : Type 0} (r : Result (List Value) (End X)) → after [] r ≡ r
after_nothing (Ok ws) = refl
after_nothing (Err h) = refl

after_after : {X : Type 0} (vs ws : List Value) (r : Result (List Value) (End X)) → after vs (after ws r) ≡ after (vs ++ ws) r
after_after vs ws (Ok xs) = ap Ok (sym (append_assoc vs ws xs))
after_after vs ws (Err h) = refl

pub leads_to_itself : {W X A : Type 0} {R : Surroundings W X} {f : ℕ → Run A} {s : Scene W} → LeadsOn R f s f s as_is
leads_to_itself = record { by = λ r s2 h. h }

pub values_begin : {W X : Type 0} {R : Surroundings W X} {f : ℕ → Run (List Value)} {s : Scene W} → LeadsOn R f s f s (after [])
values_begin = record { by = λ r s2 h. by_result (after_nothing r) h }

pub leads_far : {W X A B D : Type 0} {R : Surroundings W X} {f : ℕ → Run A} {g : ℕ → Run B} {h : ℕ → Run D} {s s1 s2 : Scene W} {p : Result B (End X) → Result A (End X)} {q : Result D (End X) → Result B (End X)}
    → LeadsOn R f s g s1 p → LeadsOn R g s1 h s2 q → LeadsOn R f s h s2 (λ r. p (q r))
leads_far {q = q} a b = record { by = λ r s3 m. a.by (q r) s3 (b.by r s3 m) }

pub leads_as : {W X A B : Type 0} {R : Surroundings W X} {f : ℕ → Run A} {g : ℕ → Run B} {s s1 : Scene W} {p q : Result B (End X) → Result A (End X)}
    → LeadsOn R f s g s1 p → ((r : Result B (End X)) → q r ≡ p r) → LeadsOn R f s g s1 q
leads_as a e = record { by = λ r s2 m. by_result (e r) (a.by r s2 m) }

-- the items from a place on, one by one
one_dropped : {A : Type 0} (xs : List A) (i : ℕ) (x : A) → i < length xs → x ≡ get_or xs i x → drop i xs ≡ x ∷ drop (suc i) xs
one_dropped [] i x h e = absurd (omega arith)
one_dropped (y ∷ xs) zero x h e = ap (λ z. z ∷ xs) (sym e)
one_dropped (y ∷ xs) (suc i) x h e = one_dropped xs i x (omega arith) e

pub dropped_one : {A : Type 0} (xs : List A) (i : ℕ) (x : A) → i < length xs → x ≡ get_or xs i x → drop i xs ≡ x ∷ drop (i + 1) xs
dropped_one xs i x h e = let next : suc i ≡ i + 1 = omega arith in one_dropped xs i x h e ∙ ap (λ n. x ∷ drop n xs) next

-- the same run from another local state of before, which has no more fuel
pub rebase : {W X A : Type 0} {R : Surroundings W X} {f : ℕ → Run A} {s s2 : Scene W} {r : Result A (End X)} (l : Local) → l.fuel ≤ s.local.fuel → l.depth ≡ s.local.depth
    → Meets R f (record { local = l; world = s.world }) r s2 → Meets R f s r s2
rebase {f = f} {s = s} l fuel depth m = record {
  fuel = let x = m.fuel in omega arith;
  depth = m.depth ∙ depth;
  led = λ gas le. let lower : l.fuel ≤ gas = omega arith in m.led gas lower;
}

-- expressions in order

one_gives : {W X : Type 0} {R : Surroundings W X} {f : ℕ → Run (List Value)} {s s2 : Scene W} (v : Value) (r : Result (List Value) (End X)) → Meets R f s r s2
    → Meets R (λ gas. next (f gas) (λ vs l. gives (v ∷ vs) l)) s (after (v ∷ []) r) s2
one_gives v (Ok ws) m = gave (λ gas vs l. gives (v ∷ vs) l) m refl (ended (v ∷ ws))
one_gives v (Err h) m = cut (λ gas vs l. gives (v ∷ vs) l) m refl refl

pub one_value : {W X : Type 0} {R : Surroundings W X} {s s1 : Scene W} {t : Result Value (End X)} {v : Value} (classes : List class.Class) (es : List expr.Expr) (i : ℕ) (e : expr.Expr)
    → i < length es → e ≡ get_or es i e → Meets R (λ gas. value_run classes e gas s.local) s t s1 → t ≡ Ok v
    → LeadsOn R (λ gas. values_run classes (drop i es) gas s.local) s (λ gas. values_run classes (drop (i + 1) es) gas s1.local) s1 (after (v ∷ []))
one_value {s = s} {s1 = s1} {v = v} classes es i e inside is m was = record {
  by = λ r s2 h. at_run (λ gas. ap (λ xs. values_run classes xs gas s.local) (dropped_one es i e inside is))
      (gave (λ gas x l1. next (values_run classes (drop (i + 1) es) gas l1) (λ xs l2. gives (x ∷ xs) l2)) m was (one_gives v r h));
}

pub no_value : {W X : Type 0} {R : Surroundings W X} {s s1 : Scene W} {t : Result Value (End X)} {h : End X} (classes : List class.Class) (es : List expr.Expr) (i : ℕ) (e : expr.Expr)
    → i < length es → e ≡ get_or es i e → Meets R (λ gas. value_run classes e gas s.local) s t s1 → t ≡ Err h
    → Meets R (λ gas. values_run classes (drop i es) gas s.local) s (Err h) s1
no_value {s = s} classes es i e inside is m was =
    at_run (λ gas. ap (λ xs. values_run classes xs gas s.local) (dropped_one es i e inside is))
    (cut (λ gas x l1. next (values_run classes (drop (i + 1) es) gas l1) (λ xs l2. gives (x ∷ xs) l2)) m was refl)

pub no_more_values : {W X : Type 0} {R : Surroundings W X} {s : Scene W} (classes : List class.Class) (es : List expr.Expr) (i : ℕ) → length es ≤ i → Meets {X = X} R (λ gas. values_run classes (drop i es) gas s.local) s (Ok []) s
no_more_values {s = s} classes es i h = at_run (λ gas. ap (λ xs. values_run classes xs gas s.local) (drop_all i es h)) (ended [])

pub with_value : {W X : Type 0} {R : Surroundings W X} {f : ℕ → Run (List Value)} {g : ℕ → Run (List Value)} {s s1 : Scene W} (vs ws xs : List Value) → LeadsOn {X = X} R f s g s1 (λ r. after vs (after ws r)) → xs ≡ vs ++ ws → LeadsOn R f s g s1 (after xs)
with_value vs ws xs a e = leads_as a (λ r. ap (λ ys. after ys r) e ∙ sym (after_after vs ws r))

-- statements in order

pub one_effect : {W X : Type 0} {R : Surroundings W X} {s s1 : Scene W} {t : Result (Unit {0}) (End X)} {u : Unit {0}} (classes : List class.Class) (ss : List stmt.Stmt) (i : ℕ) (x : stmt.Stmt)
    → i < length ss → x ≡ get_or ss i x → Meets R (λ gas. stmt_run classes x gas s.local) s t s1 → t ≡ Ok u
    → LeadsOn R (λ gas. stmts_run classes (drop i ss) gas s.local) s (λ gas. stmts_run classes (drop (i + 1) ss) gas s1.local) s1 as_is
one_effect {s = s} classes ss i x inside is m was = record {
  by = λ r s2 h. at_run (λ gas. ap (λ xs. stmts_run classes xs gas s.local) (dropped_one ss i x inside is))
      (gave (λ gas u l1. stmts_run classes (drop (i + 1) ss) gas l1) m was h);
}

pub no_effect : {W X : Type 0} {R : Surroundings W X} {s s1 : Scene W} {t : Result (Unit {0}) (End X)} {h : End X} (classes : List class.Class) (ss : List stmt.Stmt) (i : ℕ) (x : stmt.Stmt)
    → i < length ss → x ≡ get_or ss i x → Meets R (λ gas. stmt_run classes x gas s.local) s t s1 → t ≡ Err h
    → Meets R (λ gas. stmts_run classes (drop i ss) gas s.local) s (Err h) s1
no_effect {s = s} classes ss i x inside is m was =
    at_run (λ gas. ap (λ xs. stmts_run classes xs gas s.local) (dropped_one ss i x inside is))
    (cut (λ gas u l1. stmts_run classes (drop (i + 1) ss) gas l1) m was refl)

pub no_more_effects : {W X : Type 0} {R : Surroundings W X} {s : Scene W} (classes : List class.Class) (ss : List stmt.Stmt) (i : ℕ) → length ss ≤ i → Meets {X = X} R (λ gas. stmts_run classes (drop i ss) gas s.local) s (Ok tt) s
no_more_effects {s = s} classes ss i h = at_run (λ gas. ap (λ xs. stmts_run classes xs gas s.local) (drop_all i ss h)) (ended tt)

-- blocks

pub plain_block : {W X : Type 0} {R : Surroundings W X} {s s1 : Scene W} {r : Result (Unit {0}) (End X)} (classes : List class.Class) (count : ℕ) (ss : List stmt.Stmt) → count ≡ length s.local.names
    → Meets R (λ gas. scope_run classes count ss gas s.local) s r s1 → Meets R (λ gas. block (stmts_run classes ss gas) s.local) s r s1
plain_block {R = R} {s = s} {s1 = s1} {r = r} classes count ss is m = subst (λ n. Meets R (λ gas. scope_run classes n ss gas s.local) s r s1) is m

pub bound_block : {W X : Type 0} {R : Surroundings W X} {s s1 : Scene W} {r : Result (Unit {0}) (End X)} (classes : List class.Class) (count : ℕ) (ss : List stmt.Stmt) (name : List ℕ) (v : Value) (names : Names)
    → count ≡ length s.local.names → names ≡ s.local.names ++ (name, v) ∷ []
    → Meets R (λ gas. scope_run classes count ss gas (record s.local { names = names })) (record { local = record s.local { names = names }; world = s.world }) r s1
    → Meets R (λ gas. block (λ l. stmts_run classes ss gas (bound name v l)) s.local) s r s1
bound_block {R = R} {s = s} {s1 = s1} {r = r} classes count ss name v names is holds m =
    rebase (bound name v s.local) (omega arith) refl
    (subst (λ n. Meets R (λ gas. scope_run classes n ss gas (bound name v s.local)) (record { local = bound name v s.local; world = s.world }) r s1) is
    (subst (λ ns. Meets R (λ gas. scope_run classes count ss gas (record s.local { names = ns })) (record { local = record s.local { names = ns }; world = s.world }) r s1) holds m))

-- turns over values

abbrev turn_on : List class.Class → List ℕ → Value → List stmt.Stmt → ℕ → (Local → Run (Unit {0})) → Unit {0} → Local → Run (Unit {0})
turn_on classes name v ss gas go u l1 = next (block (λ l2. stmts_run classes ss gas (bound name v l2)) l1) (λ w l3. go l3)

pub one_turn : {W X : Type 0} {R : Surroundings W X} {s s1 s2 : Scene W} {t t1 : Result (Unit {0}) (End X)} {u u1 : Unit {0}} (classes : List class.Class) (over : Turns) (at : ℕ) (name : List ℕ) (vs : List Value) (ss : List stmt.Stmt) (i : ℕ) (v : Value)
    → i < length vs → v ≡ get_or vs i v → Meets R (λ gas. begin_run over at gas s.local) s t s1 → t ≡ Ok u
    → Meets R (λ gas. block (λ l. stmts_run classes ss gas (bound name v l)) s1.local) s1 t1 s2 → t1 ≡ Ok u1
    → LeadsOn R (λ gas. turns_run classes over at name (drop i vs) ss gas s.local) s (λ gas. turns_run classes over at name (drop (i + 1) vs) ss gas s2.local) s2 as_is
one_turn {s = s} classes over at name vs ss i v inside is begins began m was = record {
  by = λ r s3 h. at_run (λ gas. ap (λ xs. turns_run classes over at name xs ss gas s.local) (dropped_one vs i v inside is))
      (gave (λ gas. turn_on classes name v ss gas (turns_run classes over at name (drop (i + 1) vs) ss gas)) begins began
      (gave (λ gas w l3. turns_run classes over at name (drop (i + 1) vs) ss gas l3) m was h));
}

pub no_turn : {W X : Type 0} {R : Surroundings W X} {s s1 : Scene W} {t : Result (Unit {0}) (End X)} {h : End X} (classes : List class.Class) (over : Turns) (at : ℕ) (name : List ℕ) (vs : List Value) (ss : List stmt.Stmt) (i : ℕ) (v : Value)
    → i < length vs → v ≡ get_or vs i v → Meets R (λ gas. begin_run over at gas s.local) s t s1 → t ≡ Err h
    → Meets R (λ gas. turns_run classes over at name (drop i vs) ss gas s.local) s (Err h) s1
no_turn {s = s} classes over at name vs ss i v inside is begins began =
    at_run (λ gas. ap (λ xs. turns_run classes over at name xs ss gas s.local) (dropped_one vs i v inside is))
    (cut (λ gas. turn_on classes name v ss gas (turns_run classes over at name (drop (i + 1) vs) ss gas)) begins began refl)

pub half_turn : {W X : Type 0} {R : Surroundings W X} {s s1 s2 : Scene W} {t t1 : Result (Unit {0}) (End X)} {u : Unit {0}} {h : End X} (classes : List class.Class) (over : Turns) (at : ℕ) (name : List ℕ) (vs : List Value) (ss : List stmt.Stmt) (i : ℕ) (v : Value)
    → i < length vs → v ≡ get_or vs i v → Meets R (λ gas. begin_run over at gas s.local) s t s1 → t ≡ Ok u
    → Meets R (λ gas. block (λ l. stmts_run classes ss gas (bound name v l)) s1.local) s1 t1 s2 → t1 ≡ Err h
    → Meets R (λ gas. turns_run classes over at name (drop i vs) ss gas s.local) s (Err h) s2
half_turn {s = s} classes over at name vs ss i v inside is begins began m was =
    at_run (λ gas. ap (λ xs. turns_run classes over at name xs ss gas s.local) (dropped_one vs i v inside is))
    (gave (λ gas. turn_on classes name v ss gas (turns_run classes over at name (drop (i + 1) vs) ss gas)) begins began
    (cut (λ gas w l3. turns_run classes over at name (drop (i + 1) vs) ss gas l3) m was refl))

pub no_more_turns : {W X : Type 0} {R : Surroundings W X} {s : Scene W} (classes : List class.Class) (over : Turns) (at : ℕ) (name : List ℕ) (vs : List Value) (ss : List stmt.Stmt) (i : ℕ) → length vs ≤ i
    → Meets {X = X} R (λ gas. turns_run classes over at name (drop i vs) ss gas s.local) s (Ok tt) s
no_more_turns {s = s} classes over at name vs ss i h = at_run (λ gas. ap (λ xs. turns_run classes over at name xs ss gas s.local) (drop_all i vs h)) (ended tt)
