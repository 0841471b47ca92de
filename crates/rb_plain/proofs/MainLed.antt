-- The code of `main` is led to its end as it means.
use Rattle.std.proofs.Common.{◌≡◌, ℕ, List, map, Option, None, Some, Result, Ok, Err, ap, sym, refl, subst, inl, inr}
use Rattle.rb_trees.specs.declared.values.Value.{Value}
use Rattle.rb_trees.specs.declared.outcomes.Raised.{Raised}
use Rattle.rb_trees.specs.declared.outcomes.Ending.{Ending}
use Rattle.rb_trees.specs.declared.outcomes.Ending.TheVariants as endings
use Rattle.rb_trees.specs.declared.code.Expr as expr
use Rattle.rb_trees.specs.declared.declarations.Class as class
use Rattle.rb_trees.specs.declared.declarations.Body as body
use Rattle.rb_trees.specs.mirror.Declarations.{mirror_body, mirror_class}
use Rattle.rb_meaning_code.specs.Dialogue.{Dialogue, Done, Ask, AskBatch, Outcome, Gave, Faulted, Run, seq, next, on, Surroundings, Follows}
use Rattle.rb_meaning_code.specs.State.{Local}
use Rattle.rb_meaning.specs.Meaning.{Around, at_start, ending_of, gives_some, runs_main}
use Rattle.rb_base.specs.Devices.{Device}
use Rattle.rb_base.specs.declared.sinks.Failed.{Failed}
use Rattle.rb_base.specs.declared.sinks.Sink as sinks
use Rattle.rb_engine.specs.Code.{value_run, stmts_run}
use Rattle.rb_engine.specs.Ends.{flattened}
use Rattle.rb_engine.specs.Meets.{Led}
use Rattle.rb_engine.specs.declared.world.Halt.{Halt}
use Rattle.rb_engine.specs.declared.world.Halt.TheVariants.{Memory, World}
use Rattle.rb_plain.specs.MainRuns.{Ends, Leads, RunsMain, main_meant, result_run, surrounds}
use Rattle.rb_plain.specs.Staged.{program_of}
use Rattle.rb_plain.specs.Worlds.{SeesAround, around_view, outer}
use Rattle.rb_plain.specs.declared.outer_world.OuterWorld.{OuterWorld}
use Rattle.rb_plain.specs.declared.run.PlainStop.{PlainStop}
use Rattle.rb_plain.specs.declared.run.PlainStop.TheVariants as stops
use Rattle.rb_plain.proofs.Answering.{outer_as}
use Rattle.rb_plain.proofs.Told.{told}

-- one run after another: the first is done, or is cut off
seq_done : {W X A B : Type 0} (R : Surroundings W X) (d : Dialogue A) (k : A → Dialogue B) (a : A) (r : Result B X) (w w1 w2 : W) → Follows R d w (Ok a) w1 → Follows R (k a) w1 r w2 → Follows R (seq d k) w r w2
seq_done R (Done b) k a r w w1 w2 h more =
    let e : a ≡ b = cc (h.0) in
    subst (λ v. Follows R (k b) v r w2) h.1 (subst (λ c. Follows R (k c) w1 r w2) e more)
seq_done R (Ask q go) k a r w w1 w2 (inl (b, mid, e, h)) more = inl (b, mid, e, seq_done R (go b) k a r mid w1 w2 h more)
seq_done R (Ask q go) k a r w w1 w2 (inr (x, e, h)) more = absurd (cc h)
seq_done R (AskBatch at l go) k a r w w1 w2 (inl (b, mid, e, h)) more = inl (b, mid, e, seq_done R (go b) k a r mid w1 w2 h more)
seq_done R (AskBatch at l go) k a r w w1 w2 (inr (x, e, h)) more = absurd (cc h)

seq_cut : {W X A B : Type 0} (R : Surroundings W X) (d : Dialogue A) (k : A → Dialogue B) (x : X) (w w1 : W) → Follows R d w (Err x) w1 → Follows R (seq d k) w (Err x) w1
seq_cut R (Done b) k x w w1 h = absurd (cc (h.0))
seq_cut R (Ask q go) k x w w1 (inl (b, mid, e, h)) = inl (b, mid, e, seq_cut R (go b) k x mid w1 h)
seq_cut R (Ask q go) k x w w1 (inr (y, e, h)) = inr (y, e, cc h)
seq_cut R (AskBatch at l go) k x w w1 (inl (b, mid, e, h)) = inl (b, mid, e, seq_cut R (go b) k x mid w1 h)
seq_cut R (AskBatch at l go) k x w w1 (inr (y, e, h)) = inr (y, e, cc h)

-- after a value, the run goes on
gave_on : {W X A B : Type 0} (R : Surroundings W X) (d : Run A) (k : A → Local → Run B) (a : A) (l : Local) (r : Result (Outcome B) X) (w w1 w2 : W) → Follows R d w (Ok (Gave a l)) w1 → Follows R (k a l) w1 r w2 → Follows R (next d k) w r w2
gave_on R d k a l r w w1 w2 h more = seq_done R d (on k) (Gave a l) r w w1 w2 h more

-- a fault ends it
faulted_on : {W X A B : Type 0} (R : Surroundings W X) (d : Run A) (k : A → Local → Run B) (f : Raised) (l : Local) (w w1 : W) → Follows R d w (Ok (Faulted f l)) w1 → Follows R (next d k) w (Ok (Faulted f l)) w1
faulted_on R d k f l w w1 h = seq_done R d (on k) (Faulted f l) _ w w1 w1 h (refl, refl)

cut_on : {W X A B : Type 0} (R : Surroundings W X) (d : Run A) (k : A → Local → Run B) (x : X) (w w1 : W) → Follows R d w (Err x) w1 → Follows R (next d k) w (Err x) w1
cut_on R d k x w w1 h = seq_cut R d (on k) x w w1 h

-- what the engine tells of a run
led_leads : {W A : Type 0} (g : sinks.Ghosts W) (d : Run A) (w w' : OuterWorld W) (l : Local) (r : Result (Result A Raised) (Halt Failed)) → Led (surrounds g) d w l (flattened r) w' → Leads g d w r w'
led_leads g d w w' l (Ok (Ok a)) h = (l, h)
led_leads g d w w' l (Ok (Err f)) h = (l, h)
led_leads g d w w' l (Err Memory) h = tt
led_leads g d w w' l (Err (World x)) h = h

-- a value of an expression as that of `main`
abbrev pub some_of : Result (Result Value Raised) (Halt Failed) → Result (Result (Option Value) Raised) (Halt Failed)
some_of (Ok (Ok v)) = Ok (Ok (Some v))
some_of (Ok (Err f)) = Ok (Err f)
some_of (Err halt) = Err halt

some_value : {W : Type 0} (g : sinks.Ghosts W) (d : Run Value) (w w' : OuterWorld W) (r : Result (Result Value Raised) (Halt Failed)) → Leads g d w r w' → Leads g (next d gives_some) w (some_of r) w'
some_value g d w w' (Ok (Ok v)) h = (h.0, gave_on (surrounds g) d gives_some v h.0 _ w w' w' h.1 (refl, refl))
some_value g d w w' (Ok (Err f)) h = (h.0, faulted_on (surrounds g) d gives_some f h.0 w w' h.1)
some_value g d w w' (Err Memory) h = tt
some_value g d w w' (Err (World x)) h = cut_on (surrounds g) d gives_some x w w' h

-- the statements of `main`, which ended well, and its value
then_value : {W : Type 0} (g : sinks.Ghosts W) (d : Run (Unit {0})) (k : Local → Run (Option Value)) (w mid w' : OuterWorld W) (l : Local) (r : Result (Result (Option Value) Raised) (Halt Failed)) → Follows (surrounds g) d w (Ok (Gave tt l)) mid → Leads g (k l) mid r w' → Leads g (next d (λ u l1. k l1)) w r w'
then_value g d k w mid w' l (Ok (Ok v)) h more = (more.0, gave_on (surrounds g) d (λ u l1. k l1) tt l _ w mid w' h more.1)
then_value g d k w mid w' l (Ok (Err f)) h more = (more.0, gave_on (surrounds g) d (λ u l1. k l1) tt l _ w mid w' h more.1)
then_value g d k w mid w' l (Err Memory) h more = tt
then_value g d k w mid w' l (Err (World x)) h more = gave_on (surrounds g) d (λ u l1. k l1) tt l _ w mid w' h more

-- `main` without a value
pub value_none : {W : Type 0} (g : sinks.Ghosts W) (classes : List class.Class) (value : Option expr.Expr) (gas : ℕ) (l : Local) (w : OuterWorld W) → value ≡ None → Leads g (result_run classes value gas l) w (Ok (Ok None)) w
value_none g classes value gas l w e = subst (λ v. Leads g (result_run classes v gas l) w (Ok (Ok None)) w) (sym e) (l, (refl, refl))

-- and with one
pub value_some : {W : Type 0} (g : sinks.Ghosts W) (classes : List class.Class) (value : Option expr.Expr) (e : expr.Expr) (gas : ℕ) (l l' : Local) (w w' : OuterWorld W) (r : Result (Result Value Raised) (Halt Failed)) (s : Result (Result (Option Value) Raised) (Halt Failed))
    → value ≡ Some e → Led (surrounds g) (value_run classes e gas l) w l' (flattened r) w' → some_of r ≡ s → Leads g (result_run classes value gas l) w s w'
value_some g classes value e gas l l' w w' r s is led is_result =
    subst (λ x. Leads g (result_run classes value gas l) w x w') is_result
    (subst (λ v. Leads g (result_run classes v gas l) w (some_of r) w') (sym is)
    (some_value g (value_run classes e gas l) w w' r (led_leads g (value_run classes e gas l) w w' l' r led)))

-- the statements of `main`, which begin in a state that is this one
abbrev Begins : {W : Type 0} → sinks.Ghosts W → List class.Class → body.Body → Local → Local → Local → OuterWorld W → Result (Result (Unit {0}) Raised) (Halt Failed) → OuterWorld W → Type 0
Begins g classes b l l0 l' w s w' = (l0 ≡ l) × Led (surrounds g) (stmts_run classes b.statements l.fuel l0) w l' (flattened s) w'

begun : {W : Type 0} (g : sinks.Ghosts W) (classes : List class.Class) (b : body.Body) (l l0 l' : Local) (w w' : OuterWorld W) (s t : Result (Result (Unit {0}) Raised) (Halt Failed)) → s ≡ t → Begins g classes b l l0 l' w s w' → Led (surrounds g) (stmts_run classes b.statements l.fuel l) w l' (flattened t) w'
begun g classes b l l0 l' w w' s t is h =
    subst (λ x. Led (surrounds g) (stmts_run classes b.statements l.fuel l) w l' (flattened x) w') is (subst (λ x. Led (surrounds g) (stmts_run classes b.statements l.fuel x) w l' (flattened s) w') h.0 h.1)

-- and what follows them where they end well
pub main_on : {W : Type 0} (g : sinks.Ghosts W) (classes : List class.Class) (b : body.Body) (l l0 l' : Local) (w mid w' : OuterWorld W) (r : Result (Result (Option Value) Raised) (Halt Failed)) (s : Result (Result (Unit {0}) Raised) (Halt Failed))
    → s ≡ Ok (Ok tt) → Begins g classes b l l0 l' w s mid → Leads g (result_run classes b.result l.fuel l') mid r w'
    → Leads g (runs_main (map mirror_class classes) l.fuel (mirror_body b) l) w r w'
main_on g classes b l l0 l' w mid w' r s is h more =
    then_value g (stmts_run classes b.statements l.fuel l) (result_run classes b.result l.fuel) w mid w' l' r (begun g classes b l l0 l' w mid s (Ok (Ok tt)) is h) more

-- where they end by a fault, or are cut off
pub main_faulted : {W : Type 0} (g : sinks.Ghosts W) (classes : List class.Class) (b : body.Body) (l l0 l' : Local) (w w' : OuterWorld W) (s : Result (Result (Unit {0}) Raised) (Halt Failed)) (f : Raised)
    → s ≡ Ok (Err f) → Begins g classes b l l0 l' w s w' → Leads g (runs_main (map mirror_class classes) l.fuel (mirror_body b) l) w (Ok (Err f)) w'
main_faulted g classes b l l0 l' w w' s f is h =
    (l', faulted_on (surrounds g) (stmts_run classes b.statements l.fuel l) (λ u l1. result_run classes b.result l.fuel l1) f l' w w' (begun g classes b l l0 l' w w' s (Ok (Err f)) is h))

pub main_cut : {W : Type 0} (g : sinks.Ghosts W) (classes : List class.Class) (b : body.Body) (l l0 l' : Local) (w w' : OuterWorld W) (s : Result (Result (Unit {0}) Raised) (Halt Failed)) (halt : Halt Failed)
    → s ≡ Err halt → Begins g classes b l l0 l' w s w' → Leads g (runs_main (map mirror_class classes) l.fuel (mirror_body b) l) w (Err halt) w'
main_cut g classes b l l0 l' w w' s Memory is h = tt
main_cut g classes b l l0 l' w w' s (World x) is h =
    cut_on (surrounds g) (stmts_run classes b.statements l.fuel l) (λ u l1. result_run classes b.result l.fuel l1) x w w' (begun g classes b l l0 l' w w' s (Err (World x)) is h)

-- how a run ended, as an ending
abbrev pub ending_or_stop : Result (Result (Option Value) Raised) (Halt Failed) → Result Ending PlainStop
ending_or_stop (Ok (Ok v)) = Ok (endings.Done v)
ending_or_stop (Ok (Err f)) = Ok (endings.Faulted f.fault f.at)
ending_or_stop (Err Memory) = Err stops.Memory
ending_or_stop (Err (World x)) = Err stops.WriteFault

by_end : {W : Type 0} (g : sinks.Ghosts W) (fuel : ℕ) (w w' : OuterWorld W) (start : Device (List ℕ)) (a : Around) (r : Result (Result (Option Value) Raised) (Halt Failed)) → SeesAround g w start w a
    → Leads g (runs_main (program_of w.inner.remote.stage).classes fuel (program_of w.inner.remote.stage).body (at_start fuel)) w r w' → Ends g w start (main_meant w fuel a) (ending_or_stop r) w'
by_end g fuel w w' start a (Ok (Ok v)) sees h =
    let t = told (around_view g w start) (surrounds g) (outer w) (outer_as g w start) _ w w' a (Ok (Gave v h.0)) sees h.1 in (ap ending_of t.0, t.1)
by_end g fuel w w' start a (Ok (Err f)) sees h =
    let t = told (around_view g w start) (surrounds g) (outer w) (outer_as g w start) _ w w' a (Ok (Faulted f h.0)) sees h.1 in (ap ending_of t.0, t.1)
by_end g fuel w w' start a (Err Memory) sees h = tt
by_end g fuel w w' start a (Err (World x)) sees h = told (around_view g w start) (surrounds g) (outer w) (outer_as g w start) _ w w' a (Err x) sees h

-- what `main` did
pub main_so : {W : Type 0} (g : sinks.Ghosts W) (fuel : ℕ) (w w' : OuterWorld W) (classes : List class.Class) (b : body.Body) (l : Local) (r : Result (Result (Option Value) Raised) (Halt Failed)) (s : Result Ending PlainStop)
    → classes ≡ w.inner.remote.stage.program.classes → b ≡ w.inner.remote.stage.program.body → l ≡ at_start fuel → ending_or_stop r ≡ s
    → Leads g (runs_main (map mirror_class classes) fuel (mirror_body b) l) w r w' → RunsMain g fuel w s w'
main_so g fuel w w' classes b l r s own main begins is h = λ start a sees.
    subst (λ x. Ends g w start (main_meant w fuel a) x w') is
    (by_end g fuel w w' start a r sees
    (subst (λ x. Leads g (runs_main (program_of w.inner.remote.stage).classes fuel (program_of w.inner.remote.stage).body x) w r w') begins
    (subst (λ x. Leads g (runs_main (program_of w.inner.remote.stage).classes fuel (mirror_body x) l) w r w') main
    (subst (λ cs. Leads g (runs_main (map mirror_class cs) fuel (mirror_body b) l) w r w') own h))))
