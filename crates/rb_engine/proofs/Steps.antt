-- How the parts of a run lead on, where the code does them one by one.
use Rattle.std.proofs.Common.{◌≡◌, ◌⊎◌, inl, inr, refl, sym, ap, ◌∙◌, subst, ℕ, ◌≤◌, arith, List, [], ◌∷◌, ◌++◌, take}
use Rattle.std.specs.Prelude.{Result, Ok, Err, OnErr, MatchResult}
use Rattle.rb_trees.specs.Outcome.{Gives}
use Rattle.rb_trees.specs.declared.values.Value.{Value}
use Rattle.rb_trees.specs.declared.values.Fault.{Fault}
use Rattle.rb_trees.specs.declared.outcomes.Raised.{Raised}
use Rattle.rb_meaning_code.specs.Faults.{raised, raises}
use Rattle.rb_meaning_code.specs.State.{Names, Local, bound, closed}
use Rattle.rb_meaning_code.specs.Dialogue.{Question, Gave, Faulted, Done, Ask, AskBatch, Run, Surroundings, Follows, seq, next, end, told}
use Rattle.rb_meaning_code.specs.Statements.{closes}
use Rattle.rb_engine.specs.Answers.{Answered, as_value, performed}
use Rattle.rb_engine.specs.Ends.{fault_of, EndsBy, StopsBy, IsErrOf, Lifts, Flattens}
use Rattle.rb_engine.specs.declared.ends.Failure.{Failure}
use Rattle.rb_engine.specs.declared.ends.Failure.TheVariants as failure
use Rattle.rb_engine.specs.declared.ends.End.{End}
use Rattle.rb_engine.specs.declared.ends.End.TheVariants.{NoMemory}
use Rattle.rb_engine.specs.declared.ends.End.TheVariants as ends
use Rattle.rb_engine.specs.declared.world.Halt.{Halt}
use Rattle.rb_engine.specs.declared.world.Halt.TheVariants.{Memory, World}
use Rattle.rb_engine.specs.Meets.{Scene, Meets}
use Rattle.rb_engine.proofs.Runs.{ended, stands, no_memory, by_result, through_led}

-- A rule of the code, r, stands for a definition, d; t is what it gives at a position.

-- an end that is known, as a result
ends_so : {T X : Type 0} {t : Result T (End X)} (f : Raised) → IsErrOf (EndsBy f) t → (t ≡ Err (ends.Raised f)) ⊎ (t ≡ Err NoMemory)
ends_so {t = Ok a} f h = absurd h
ends_so {t = Err e} f (inl is) = inl (ap Err is)
ends_so {t = Err e} f (inr is) = inr (ap Err is)

stops_so : {T X : Type 0} {t : Result T (End X)} (x : X) → IsErrOf (StopsBy x) t → (t ≡ Err (ends.Stopped x)) ⊎ (t ≡ Err NoMemory)
stops_so {t = Ok a} x h = absurd h
stops_so {t = Err e} x (inl is) = inl (ap Err is)
stops_so {t = Err e} x (inr is) = inr (ap Err is)

pub ok_means : {T X Y : Type 0} (view : T → Y) (at : ℕ) (r : Result T Failure) (t : Result T (End X)) (d : Result Y Fault) (a : T) → Gives view fault_of r d → Lifts at r t → t ≡ Ok a → d ≡ Ok (view a)
ok_means view at (Ok x) t d a g l was = let same : x ≡ a = cc (l, was) in g ∙ ap (λ y. Ok (view y)) same
ok_means view at (Err (failure.Fault f)) (Ok x) d a g l was = absurd l
ok_means view at (Err (failure.Fault f)) (Err e) d a g l was = absurd (cc was)
ok_means view at (Err failure.Memory) t d a g l was = absurd (cc (l, was))

-- the rule gave a value, and the run goes on
pub helped : {W X T Y B : Type 0} {R : Surroundings W X} {s s2 : Scene W} {t : Result T (End X)} {a : T} {res : Result B (End X)} (view : T → Y) (at : ℕ) (r : Result T Failure) (d : Result Y Fault) (l : Local) (k : ℕ → Y → Local → Run B)
    → Gives view fault_of r d → Lifts at r t → t ≡ Ok a → Meets R (λ gas. k gas (view a) l) s res s2 → Meets R (λ gas. next (end l (raises at d)) (k gas)) s res s2
helped {R = R} {s = s} {s2 = s2} {t = t} {a = a} {res = res} view at r d l k g is was n =
    subst (λ e. Meets R (λ gas. next (end l (raises at e)) (k gas)) s res s2) (sym (ok_means view at r t d a g is was)) n

-- a fault ends the run where it stands
faulted_here : {W X A B : Type 0} (R : Surroundings W X) (at : ℕ) (f : Fault) (l : Local) (s : Scene W) (k : ℕ → A → Local → Run B) → l.fuel ≤ s.local.fuel → l.depth ≡ s.local.depth
    → Meets {X = X} R (λ gas. next (end l (raises {A = A} at (Err f))) (k gas)) s (Err (ends.Raised (raised f at))) (record { local = l; world = s.world })
faulted_here R at f l s k fuel depth = record { fuel = fuel; depth = depth; led = λ gas le. (refl, refl) }

-- memory ran out, and nothing is said
want_means : {W X T Y B : Type 0} (R : Surroundings W X) (at : ℕ) (t : Result T (End X)) (d : Result Y Fault) (h : End X) (l : Local) (s : Scene W) (k : ℕ → Y → Local → Run B)
    → t ≡ Err NoMemory → t ≡ Err h → l.fuel ≤ s.local.fuel → l.depth ≡ s.local.depth
    → Meets R (λ gas. next (end l (raises at d)) (k gas)) s (Err h) (record { local = l; world = s.world })
want_means R at t d h l s k is was fuel depth =
    let same : NoMemory ≡ h = cc (is, was) in
    subst (λ e. Meets R (λ gas. next (end l (raises at d)) (k gas)) s (Err e) (record { local = l; world = s.world })) same (no_memory _ fuel depth)

-- a rule's fault ends the run, unless memory ran out
fault_means : {W X T Y B : Type 0} (R : Surroundings W X) (at : ℕ) (f : Fault) (t : Result T (End X)) (d : Result Y Fault) (h : End X) (l : Local) (s : Scene W) (k : ℕ → Y → Local → Run B)
    → d ≡ Err f → (t ≡ Err (ends.Raised (raised f at))) ⊎ (t ≡ Err NoMemory) → t ≡ Err h → l.fuel ≤ s.local.fuel → l.depth ≡ s.local.depth
    → Meets R (λ gas. next (end l (raises at d)) (k gas)) s (Err h) (record { local = l; world = s.world })
fault_means R at f t d h l s k g (inl is) was fuel depth =
    let same : ends.Raised (raised f at) ≡ h = cc (is, was) in
    subst (λ e. Meets R (λ gas. next (end l (raises at e)) (k gas)) s (Err h) (record { local = l; world = s.world })) (sym g)
    (subst (λ e. Meets R (λ gas. next (end l (raises at (Err f))) (k gas)) s (Err e) (record { local = l; world = s.world })) same (faulted_here R at f l s k fuel depth))
fault_means R at f t d h l s k g (inr is) was fuel depth = want_means R at t d h l s k is was fuel depth

err_means : {W X T Y B : Type 0} (R : Surroundings W X) (view : T → Y) (at : ℕ) (r : Result T Failure) (t : Result T (End X)) (d : Result Y Fault) (h : End X) (l : Local) (s : Scene W) (k : ℕ → Y → Local → Run B)
    → Gives view fault_of r d → Lifts at r t → t ≡ Err h → l.fuel ≤ s.local.fuel → l.depth ≡ s.local.depth
    → Meets R (λ gas. next (end l (raises at d)) (k gas)) s (Err h) (record { local = l; world = s.world })
err_means R view at (Ok x) t d h l s k g is was fuel depth = absurd (cc (is, was))
err_means R view at (Err (failure.Fault f)) t d h l s k g is was fuel depth = fault_means R at f t d h l s k g (ends_so (raised f at) is) was fuel depth
err_means R view at (Err failure.Memory) t d h l s k g is was fuel depth = want_means R at t d h l s k is was fuel depth

-- the rule gave none, and the run is over
pub unhelped : {W X T Y B : Type 0} {R : Surroundings W X} {s : Scene W} {t : Result T (End X)} {h : End X} {res : Result B (End X)} (view : T → Y) (at : ℕ) (r : Result T Failure) (d : Result Y Fault) (k : ℕ → Y → Local → Run B)
    → Gives view fault_of r d → Lifts at r t → t ≡ Err h → res ≡ Err h → Meets R (λ gas. next (end s.local (raises at d)) (k gas)) s res s
unhelped {R = R} {s = s} {t = t} {h = h} view at r d k g is was e =
    by_result e (err_means R view at r t d h s.local s k g is was (omega arith) refl)

-- the same where the local state changed meanwhile
pub unhelped_at : {W X T Y B : Type 0} {R : Surroundings W X} {s : Scene W} {t : Result T (End X)} {h : End X} {res : Result B (End X)} (view : T → Y) (at : ℕ) (r : Result T Failure) (d : Result Y Fault) (l : Local) (k : ℕ → Y → Local → Run B)
    → Gives view fault_of r d → Lifts at r t → t ≡ Err h → res ≡ Err h → l.fuel ≤ s.local.fuel → l.depth ≡ s.local.depth
    → Meets R (λ gas. next (end l (raises at d)) (k gas)) s res (record { local = l; world = s.world })
unhelped_at {R = R} {s = s} {t = t} {h = h} view at r d l k g is was e fuel depth =
    by_result e (err_means R view at r t d h l s k g is was fuel depth)

-- a run that ends by a fault
ended_in : {W X A : Type 0} {R : Surroundings W X} {s : Scene W} {t : Result A (End X)} (f : Raised) → (t ≡ Err (ends.Raised f)) ⊎ (t ≡ Err NoMemory) → Meets R (λ gas. Done (Faulted f s.local)) s t s
ended_in f (inl is) = by_result is (stands f)
ended_in f (inr is) = by_result is (no_memory _ (omega arith) refl)

pub ended_by : {W X A : Type 0} {R : Surroundings W X} {s : Scene W} {t : Result A (End X)} (f : Raised) → IsErrOf (EndsBy f) t → Meets R (λ gas. Done (Faulted f s.local)) s t s
ended_by f h = ended_in f (ends_so f h)

-- a run that ends by a rule
pub helped_end : {W X A : Type 0} {R : Surroundings W X} {s : Scene W} {t : Result A (End X)} (at : ℕ) (r : Result A Failure) (d : Result A Fault)
    → Gives (λ a. a) fault_of r d → Lifts at r t → Meets R (λ gas. end s.local (raises at d)) s t s
helped_end {R = R} {s = s} at (Ok a) d g is = by_result is (subst (λ e. Meets R (λ gas. end s.local (raises at e)) s (Ok a) s) (sym g) (ended a))
helped_end {R = R} {s = s} {t = t} at (Err (failure.Fault f)) d g is =
    subst (λ e. Meets R (λ gas. end s.local (raises at e)) s t s) (sym g) (ended_by (raised f at) is)
helped_end {s = s} at (Err failure.Memory) d g is = by_result is (no_memory _ (omega arith) refl)

-- a rule that may put something new into the local state says a fault, and has left what was there
changed_not : {W X A Y F : Type 0} (R : Surroundings W X) (s : Scene W) {t : Result A (End X)} (at : ℕ) (f : Fault) (d : Result Y Fault) (put : F → Local) (old new : F) (k : Y → Local → Run A)
    → put old ≡ s.local → (put new).fuel ≡ s.local.fuel → (put new).depth ≡ s.local.depth → d ≡ Err f → new ≡ old → (t ≡ Err (ends.Raised (raised f at))) ⊎ (t ≡ Err NoMemory)
    → Meets R (λ gas. next (end s.local (raises at d)) k) s t (record { local = put new; world = s.world })
changed_not R s at f d put old new k same fuel depth g kept (inl is) =
    by_result is (subst (λ e. Meets R (λ gas. next (end s.local (raises at e)) k) s (Err (ends.Raised (raised f at))) (record { local = put new; world = s.world })) (sym g)
    (record { fuel = omega arith; depth = depth; led = λ gas le. (ap (λ l. Ok (Faulted (raised f at) l)) (ap put kept ∙ same), refl) }))
changed_not R s at f d put old new k same fuel depth g kept (inr is) = by_result is (no_memory _ (omega arith) depth)

-- the same where the rule puts something new into the local state, and leaves what was there where it gives nothing
pub changed : {W X A Y F : Type 0} {R : Surroundings W X} {s : Scene W} {t : Result A (End X)} (view : A → Y) (at : ℕ) (r : Result A Failure) (d : Result Y Fault) (put : F → Local) (old new : F) (k : Y → Local → Run A)
    → put old ≡ s.local → (put new).fuel ≡ s.local.fuel → (put new).depth ≡ s.local.depth → ((a : A) → k (view a) s.local ≡ Done (Gave a (put new)))
    → Gives view fault_of r d → OnErr r (new ≡ old) → Lifts at r t
    → Meets R (λ gas. next (end s.local (raises at d)) k) s t (record { local = put new; world = s.world })
changed {R = R} {s = s} view at (Ok a) d put old new k same fuel depth ok g kept is =
    by_result is (subst (λ e. Meets R (λ gas. next (end s.local (raises at e)) k) s (Ok a) (record { local = put new; world = s.world })) (sym g)
    (record { fuel = omega arith; depth = depth; led = λ gas le. subst (λ e. Follows R e s.world (Ok (Gave a (put new))) s.world) (sym (ok a)) (refl, refl) }))
changed {R = R} {s = s} view at (Err (failure.Fault f)) d put old new k same fuel depth ok g kept is = changed_not R s at f d put old new k same fuel depth g kept (ends_so (raised f at) is)
changed {R = R} {s = s} view at (Err failure.Memory) d put old new k same fuel depth ok g kept is = by_result is (no_memory _ (omega arith) depth)

-- a run that gives what a helper gives, unless memory runs out
pub given : {W X A : Type 0} {R : Surroundings W X} {s s1 : Scene W} {f : ℕ → Run A} {r : Result A (End X)} (a : A) (l : Local)
    → ((gas : ℕ) → f gas ≡ Done (Gave a l)) → MatchResult r (λ b. b ≡ a) (λ e. e ≡ NoMemory) → l ≡ s1.local → s1.world ≡ s.world → s1.local.fuel ≤ s.local.fuel → s1.local.depth ≡ s.local.depth
    → Meets R f s r s1
given {R = R} {s = s} {s1 = s1} {f = f} {r = Ok b} a l is m same world fuel depth =
    record { fuel = fuel; depth = depth; led = λ gas le. subst (λ d. Follows R d s.world (Ok (Gave b s1.local)) s1.world) (sym (is gas)) (ap (λ x. Ok (Gave x s1.local)) m ∙ ap (λ x. Ok (Gave a x)) (sym same), world) }
given {f = f} {r = Err e} a l is m same world fuel depth = by_result (ap Err m) (no_memory f fuel depth)

-- What holds of a run where it ends so holds of it where memory ran out instead.
faulted_or : {W X A : Type 0} {R : Surroundings W X} {f : ℕ → Run A} {s s1 : Scene W} {t : Result A (End X)} {h : End X} → (t ≡ Err h) ⊎ (t ≡ Err NoMemory) → Meets R f s (Err h) s1 → Meets R f s t s1
faulted_or (inl is) m = by_result is m
faulted_or {f = f} (inr is) m = by_result is (no_memory f m.fuel m.depth)

-- What the World answers.

pub asked : {W X : Type 0} {R : Surroundings W X} {t : Result Value (End X)} {w w1 : W} {l : Local} (q : Question) (r : Result (Result Value Raised) (Halt X)) → Flattens r t → Answered r (λ a. R.answers w q a w1)
    → Meets R (λ gas. Ask q (end l)) (record { local = l; world = w }) t (record { local = l; world = w1 })
asked {w1 = w1} q (Ok (Ok a)) is h = by_result is (record { fuel = omega arith; depth = refl; led = λ gas le. inl (Ok a, w1, h, (refl, refl)) })
asked {w1 = w1} q (Ok (Err f)) is h = faulted_or (ends_so f is) (record { fuel = omega arith; depth = refl; led = λ gas le. inl (Err f, w1, h, (refl, refl)) })
asked q (Err Memory) is h = by_result is (record { fuel = omega arith; depth = refl; led = λ gas le. tt })
asked q (Err (World x)) is h = faulted_or (stops_so x is) (record { fuel = omega arith; depth = refl; led = λ gas le. inr (x, h, refl) })

pub told_so : {W X : Type 0} {R : Surroundings W X} {t : Result (Unit {0}) (End X)} {w w1 : W} {l : Local} (q : Question) (r : Result (Result (Unit {0}) Raised) (Halt X)) → Flattens r t → Answered (as_value r) (λ a. R.answers w q a w1)
    → Meets R (λ gas. Ask q (told l)) (record { local = l; world = w }) t (record { local = l; world = w1 })
told_so {w1 = w1} q (Ok (Ok a)) is h = by_result is (record { fuel = omega arith; depth = refl; led = λ gas le. inl (_, w1, h, (refl, refl)) })
told_so {w1 = w1} q (Ok (Err f)) is h = faulted_or (ends_so f is) (record { fuel = omega arith; depth = refl; led = λ gas le. inl (Err f, w1, h, (refl, refl)) })
told_so q (Err Memory) is h = by_result is (record { fuel = omega arith; depth = refl; led = λ gas le. tt })
told_so q (Err (World x)) is h = faulted_or (stops_so x is) (record { fuel = omega arith; depth = refl; led = λ gas le. inr (x, h, refl) })

pub batched : {W X : Type 0} {R : Surroundings W X} {t : Result (Unit {0}) (End X)} {w w1 : W} {l l1 : Local} (at : ℕ) (r : Result (Result (Unit {0}) Raised) (Halt X)) → Flattens r t → Answered (performed l1 r) (λ o. R.performs w at l o w1)
    → l1.fuel ≤ l.fuel → l1.depth ≡ l.depth
    → Meets R (λ gas. AskBatch at l Done) (record { local = l; world = w }) t (record { local = l1; world = w1 })
batched {w1 = w1} {l1 = l1} at (Ok (Ok a)) is h fuel depth = by_result is (record { fuel = fuel; depth = depth; led = λ gas le. inl (Gave tt l1, w1, h, (refl, refl)) })
batched {w1 = w1} {l1 = l1} at (Ok (Err f)) is h fuel depth = faulted_or (ends_so f is) (record { fuel = fuel; depth = depth; led = λ gas le. inl (Faulted f l1, w1, h, (refl, refl)) })
batched at (Err Memory) is h fuel depth = by_result is (record { fuel = fuel; depth = depth; led = λ gas le. tt })
batched at (Err (World x)) is h fuel depth = faulted_or (stops_so x is) (record { fuel = fuel; depth = depth; led = λ gas le. inr (x, h, refl) })

-- a name was bound, unless memory ran out
pub bound_after : {W X : Type 0} {R : Surroundings W X} {s : Scene W} {r : Result (Unit {0}) (End X)} (name : List ℕ) (v : Value) (names : Names)
    → MatchResult r (λ u. names ≡ s.local.names ++ (name, v) ∷ []) (λ e. e ≡ NoMemory)
    → Meets R (λ gas. Done (Gave tt (bound name v s.local))) s r (record { local = record s.local { names = names }; world = s.world })
bound_after {s = s} {r = Ok u} name v names m = record { fuel = omega arith; depth = refl; led = λ gas le. (ap (λ ns. Ok (Gave tt (record s.local { names = ns }))) m, refl) }
bound_after {R = R} {s = s} {r = Err e} name v names m = by_result (ap Err m) (no_memory _ (omega arith) refl)

-- at the end of a block its names go
pub closes_after : {W X : Type 0} {R : Surroundings W X} {f : ℕ → Run (Unit {0})} {s s1 : Scene W} {r : Result (Unit {0}) (End X)} (count : ℕ) (names : Names)
    → names ≡ take count s1.local.names → Meets R f s r s1
    → Meets R (λ gas. seq (f gas) (closes count)) s r (record { local = record s1.local { names = names }; world = s1.world })
closes_after {R = R} {f = f} {s = s} {s1 = s1} {r = r} count names is m =
    subst (λ ns. Meets R (λ gas. seq (f gas) (closes count)) s r (record { local = record s1.local { names = ns }; world = s1.world })) (sym is)
    (record {
      fuel = m.fuel;
      depth = m.depth;
      led = λ gas le. through_led R (f gas) (closes count) (closed count) s1.local r s.world s1.world (λ a. refl) (λ f1. refl) (m.led gas le);
    })

-- the run is over for want of memory
pub want : {X A : Type 0} {r : Result A (End X)} {h : End X} → r ≡ Err h → h ≡ NoMemory → r ≡ Err NoMemory
want was is = was ∙ ap Err is
