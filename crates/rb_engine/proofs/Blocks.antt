-- Calls, blocks that are tried, and the turns of a `while`.
use Rattle.std.proofs.Common.{◌≡◌, refl, sym, ap, subst, ℕ, zero, suc, ◌<◌, ◌≤◌, arith, List, map}
use Rattle.std.specs.Prelude.{◌-◌, Bool, true, false, cond, Result, Ok, Err}
use Rattle.rb_trees.specs.Outcome.{Gives}
use Rattle.rb_trees.specs.declared.values.Value.{Value, out-Value}
use Rattle.rb_trees.specs.declared.values.Value.TheVariants as value
use Rattle.rb_trees.specs.declared.outcomes.Raised.{Raised}
use Rattle.rb_trees.specs.declared.code.Stmt as stmt
use Rattle.rb_trees.specs.declared.declarations.Class as class
use Rattle.rb_trees.specs.declared.declarations.Body as body
use Rattle.rb_trees.specs.mirror.Declarations.{mirror_class, mirror_body}
use Rattle.rb_meaning_code.specs.Faults.{raises, caught_text, is_caught}
use Rattle.rb_meaning_code.specs.State.{Names, Local, bound, spent}
use Rattle.rb_meaning_code.specs.Dialogue.{Faulted, Done, Run, Surroundings, seq, next, end}
use Rattle.rb_meaning_code.specs.Calls.{left, entered, unit_due}
use Rattle.rb_meaning_code.specs.Statements.{Effect, block, nothing, either, by_truth, after_unit, handles, truth_of, while_turns}
use Rattle.rb_meaning_code.specs.Bodies.{body_within}
use Rattle.rb_engine.specs.Code.{body_run, stmts_run, try_run}
use Rattle.rb_engine.specs.Ends.{fault_of, Lifts}
use Rattle.rb_engine.specs.declared.ends.Failure.{Failure}
use Rattle.rb_engine.specs.declared.ends.End.{End}
use Rattle.rb_engine.specs.declared.ends.End.TheVariants as ends
use Rattle.rb_engine.specs.Meets.{Scene, Led, Meets}
use Rattle.rb_engine.proofs.Runs.{next_next, gave, cut, ended, stands, at_run, through_led, sequel, sequel_of_fault}
use Rattle.rb_engine.proofs.Steps.{helped, unhelped}
use Rattle.rb_engine.proofs.Loops.{rebase}

-- a call, within a gas that is at least the fuel, of which a unit is left
within_gas : {W X : Type 0} {R : Surroundings W X} {s1 : Scene W} {r : Result Value (End X)} (classes : List class.Class) (at : ℕ) (b : body.Body) (inside l : Local) (fuel : ℕ) (w : W)
    → 0 < fuel → inside.fuel ≡ fuel - 1 → Meets R (λ gas. body_run classes b gas inside) (record { local = inside; world = w }) r s1
    → (gas : ℕ) → fuel ≤ gas → Led R (seq (body_within (map mirror_class classes) gas at (mirror_body b) inside) (left l)) w (record s1.local { names = l.names; depth = l.depth }) r s1.world
within_gas classes at b inside l fuel w low spends m zero le = absurd (omega arith)
within_gas {R = R} {s1 = s1} {r = r} classes at b inside l fuel w low spends m (suc gas) le =
    let enough : inside.fuel ≤ gas = omega arith in
    through_led R (body_run classes b gas inside) (left l) (λ x. record x { names = l.names; depth = l.depth }) s1.local r w s1.world (λ a. refl) (λ f. refl) (m.led gas enough)

-- a method's body, and then the caller again
pub call_returns : {W X : Type 0} {R : Surroundings W X} {s s1 : Scene W} {r : Result Value (End X)} (classes : List class.Class) (at : ℕ) (b : body.Body) (names names' : Names)
    → names' ≡ names → 0 < s.local.fuel
    → Meets R (λ gas. body_run classes b gas (entered names' (spent s.local))) (record { local = entered names' (spent s.local); world = s.world }) r s1
    → Meets R (λ gas. seq (body_within (map mirror_class classes) gas at (mirror_body b) (entered names (spent s.local))) (left (spent s.local))) s r
    (record { local = record s1.local { names = s.local.names; depth = s1.local.depth - 1 }; world = s1.world })
call_returns {R = R} {s = s} {s1 = s1} {r = r} classes at b names names' same low m =
    let e : s1.local.depth - 1 ≡ s.local.depth = (let d = m.depth in omega arith) in
    subst (λ ns. Meets R (λ gas. seq (body_within (map mirror_class classes) gas at (mirror_body b) (entered ns (spent s.local))) (left (spent s.local))) s r (record { local = record s1.local { names = s.local.names; depth = s1.local.depth - 1 }; world = s1.world })) same
    (subst (λ d. Meets R (λ gas. seq (body_within (map mirror_class classes) gas at (mirror_body b) (entered names' (spent s.local))) (left (spent s.local))) s r (record { local = record s1.local { names = s.local.names; depth = d }; world = s1.world })) (sym e)
    (record {
      fuel = let x = m.fuel in omega arith;
      depth = refl;
      led = λ gas le. within_gas classes at b (entered names' (spent s.local)) (spent s.local) s.local.fuel s.world low refl m gas le;
    }))

-- a block that is tried

pub try_fine : {W X : Type 0} {R : Surroundings W X} {s s1 : Scene W} {t : Result (Unit {0}) (End X)} {u : Unit {0}} (classes : List class.Class) (tried : List stmt.Stmt) (name : List ℕ) (handler : List stmt.Stmt)
    → Meets R (λ gas. block (stmts_run classes tried gas) s.local) s t s1 → t ≡ Ok u → Meets R (λ gas. try_run classes tried name handler gas s.local) s (Ok u) s1
try_fine classes tried name handler m was = sequel (λ gas. handles name (stmts_run classes handler gas)) m was (ended _)

pub try_passed : {W X : Type 0} {R : Surroundings W X} {s s1 : Scene W} {t : Result (Unit {0}) (End X)} {f : Raised} (classes : List class.Class) (tried : List stmt.Stmt) (name : List ℕ) (handler : List stmt.Stmt)
    → Meets R (λ gas. block (stmts_run classes tried gas) s.local) s t s1 → t ≡ Err (ends.Raised f) → is_caught f ≡ false → Meets R (λ gas. try_run classes tried name handler gas s.local) s (Err (ends.Raised f)) s1
try_passed {R = R} {s1 = s1} {f = f} classes tried name handler m was free =
    sequel_of_fault (λ gas. handles name (stmts_run classes handler gas)) m was
    (at_run (λ gas. ap (λ c. cond c (block (λ l. stmts_run classes handler gas (bound name (value.Text (caught_text f.fault)) l)) s1.local) (Done (Faulted f s1.local))) free) (stands f))

pub try_handled : {W X : Type 0} {R : Surroundings W X} {s s1 s2 : Scene W} {t r : Result (Unit {0}) (End X)} {f : Raised} (classes : List class.Class) (tried : List stmt.Stmt) (name : List ℕ) (handler : List stmt.Stmt)
    → Meets R (λ gas. block (stmts_run classes tried gas) s.local) s t s1 → t ≡ Err (ends.Raised f) → is_caught f ≡ true
    → Meets R (λ gas. block (λ l. stmts_run classes handler gas (bound name (value.Text (caught_text f.fault)) l)) s1.local) s1 r s2
    → Meets R (λ gas. try_run classes tried name handler gas s.local) s r s2
try_handled {R = R} {s1 = s1} {f = f} classes tried name handler m was caught n =
    sequel_of_fault (λ gas. handles name (stmts_run classes handler gas)) m was
    (at_run (λ gas. ap (λ c. cond c (block (λ l. stmts_run classes handler gas (bound name (value.Text (caught_text f.fault)) l)) s1.local) (Done (Faulted f s1.local))) caught) n)

-- what goes by the truth of a value goes on with it
pub by_its_truth : (at : ℕ) (d : Run Value) (a b : Effect)
    → next d (λ v l. by_truth at v a b l) ≡ next (next d (λ v l. end l (raises at (truth_of (out-Value v))))) (λ holds l. either holds a b l)
by_its_truth at d a b = sym (next_next d (λ v l. end l (raises at (truth_of (out-Value v)))) (λ holds l. either holds a b l))

-- a turn of a `while`, within one gas

abbrev turn : ℕ → ℕ → (Local → Run Value) → Effect → Effect
turn turns at condition body = after_unit at (λ l. next (body l) (λ u l1. while_turns turns at condition body l1))

pub while_false : {W X : Type 0} {R : Surroundings W X} {s s1 : Scene W} {t : Result Bool (End X)} (turns at : ℕ) (condition : Local → Run Value) (body : Effect)
    → Meets R (λ any. next (condition s.local) (λ v l1. end l1 (raises at (truth_of (out-Value v))))) s t s1 → t ≡ Ok false
    → Meets R (λ any. while_turns (suc turns) at condition body s.local) s (Ok tt) s1
while_false {s = s} turns at condition body m holds =
    at_run (λ any. by_its_truth at (condition s.local) (turn turns at condition body) nothing)
    (gave (λ any b l. either b (turn turns at condition body) nothing l) m holds (ended tt))

pub while_true : {W X : Type 0} {R : Surroundings W X} {s s1 s2 : Scene W} {t : Result Bool (End X)} {r : Result (Unit {0}) (End X)} (turns at : ℕ) (condition : Local → Run Value) (body : Effect)
    → Meets R (λ any. next (condition s.local) (λ v l1. end l1 (raises at (truth_of (out-Value v))))) s t s1 → t ≡ Ok true
    → Meets R (λ any. after_unit at (λ l3. next (body l3) (λ u l4. while_turns turns at condition body l4)) s1.local) s1 r s2
    → Meets R (λ any. while_turns (suc turns) at condition body s.local) s r s2
while_true {s = s} turns at condition body m holds n =
    at_run (λ any. by_its_truth at (condition s.local) (turn turns at condition body) nothing)
    (gave (λ any b l. either b (turn turns at condition body) nothing l) m holds n)

pub while_fails : {W X : Type 0} {R : Surroundings W X} {s s1 : Scene W} {t : Result Bool (End X)} {h : End X} (turns at : ℕ) (condition : Local → Run Value) (body : Effect)
    → Meets R (λ any. next (condition s.local) (λ v l1. end l1 (raises at (truth_of (out-Value v))))) s t s1 → t ≡ Err h
    → Meets R (λ any. while_turns (suc turns) at condition body s.local) s (Err h) s1
while_fails {s = s} turns at condition body m was =
    at_run (λ any. by_its_truth at (condition s.local) (turn turns at condition body) nothing)
    (cut (λ any b l. either b (turn turns at condition body) nothing l) m was refl)

-- a unit of fuel is taken, and the block runs
pub unit_taken : {W X : Type 0} {R : Surroundings W X} {s s1 s2 : Scene W} {t : Result (Unit {0}) (End X)} {t1 : Result (Unit {0}) (End X)} {u u1 : Unit {0}} {r : Result (Unit {0}) (End X)} (at : ℕ) (body : Effect) (k : Effect) (r1 : Result (Unit {0}) Failure)
    → Gives (λ x. x) fault_of r1 (unit_due s.local.fuel) → Lifts at r1 t → t ≡ Ok u
    → Meets R (λ any. body (spent s.local)) (record { local = spent s.local; world = s.world }) t1 s1 → t1 ≡ Ok u1
    → Meets R (λ any. k s1.local) s1 r s2
    → Meets R (λ any. after_unit at (λ l3. next (body l3) (λ x l4. k l4)) s.local) s r s2
unit_taken {s = s} at body k r1 g is was m was1 n =
    helped (λ x. x) at r1 (unit_due s.local.fuel) s.local (λ any x l1. next (body (spent l1)) (λ y l4. k l4)) g is was
    (gave (λ any y l4. k l4) (rebase (spent s.local) (omega arith) refl m) was1 n)

pub unit_wasted : {W X : Type 0} {R : Surroundings W X} {s s1 : Scene W} {t : Result (Unit {0}) (End X)} {t1 : Result (Unit {0}) (End X)} {u : Unit {0}} {h : End X} (at : ℕ) (body : Effect) (k : Effect) (r1 : Result (Unit {0}) Failure)
    → Gives (λ x. x) fault_of r1 (unit_due s.local.fuel) → Lifts at r1 t → t ≡ Ok u
    → Meets R (λ any. body (spent s.local)) (record { local = spent s.local; world = s.world }) t1 s1 → t1 ≡ Err h
    → Meets R (λ any. after_unit at (λ l3. next (body l3) (λ x l4. k l4)) s.local) s (Err h) s1
unit_wasted {s = s} at body k r1 g is was m was1 =
    helped (λ x. x) at r1 (unit_due s.local.fuel) s.local (λ any x l1. next (body (spent l1)) (λ y l4. k l4)) g is was
    (cut (λ any y l4. k l4) (rebase (spent s.local) (omega arith) refl m) was1 refl)

pub unit_missing : {W X : Type 0} {R : Surroundings W X} {s : Scene W} {t : Result (Unit {0}) (End X)} {h : End X} (at : ℕ) (body : Effect) (k : Effect) (r1 : Result (Unit {0}) Failure)
    → Gives (λ x. x) fault_of r1 (unit_due s.local.fuel) → Lifts at r1 t → t ≡ Err h → Meets R (λ any. after_unit at (λ l3. next (body l3) (λ x l4. k l4)) s.local) s (Err h) s
unit_missing {s = s} at body k r1 g is was = unhelped (λ x. x) at r1 (unit_due s.local.fuel) (λ any x l1. next (body (spent l1)) (λ y l4. k l4)) g is was refl

-- a gas with a unit for one turn more
pub turn_more : (m n at : ℕ) (condition : Local → Run Value) (body : Effect) (l : Local) → 0 < n → n ≤ m → (x : ℕ) × (n - 1 ≤ x) × (while_turns m at condition body l ≡ while_turns (suc x) at condition body l)
turn_more zero n at condition body l low le = absurd (omega arith)
turn_more (suc m) n at condition body l low le = (m, omega arith, refl)
