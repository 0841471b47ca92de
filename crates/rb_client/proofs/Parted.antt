-- How parts are performed, one after the other and within each other.
use Rattle.std.proofs.Common.{◌≡◌, refl, sym, ap, ◌∙◌, subst, ℕ, ◌+◌, ◌<◌, ◌≤◌, arith, List, [], ◌∷◌, map, length, drop, get_or}
use Rattle.std.proofs.lemmas.List.{drop_all}
use Rattle.std.specs.Prelude.{Option, None, Some, Result, Ok, Err}
use Rattle.std.specs.Borrow.{MutBor}
use Rattle.rb_trees.specs.declared.code.Stmt as stmt
use Rattle.rb_trees.specs.declared.code.Expr as expr
use Rattle.rb_trees.specs.declared.declarations.Class as class
use Rattle.rb_trees.specs.declared.forests.NodeFault.{NodeFault}
use Rattle.rb_trees.specs.declared.outcomes.Raised.{Raised}
use Rattle.rb_trees.specs.declared.remainders.Part as part
use Rattle.rb_trees.specs.declared.values.Value.{Value}
use Rattle.rb_trees.specs.mirror.Code.{mirror_stmt}
use Rattle.rb_trees.specs.mirror.Declarations.{mirror_class}
use Rattle.rb_trees.specs.mirror.Forests.{Node}
use Rattle.rb_trees.specs.mirror.Remainders.{Part, mirror_part, mirror_parts}
use Rattle.rb_meaning_code.specs.Bodies.{bodies_of}
use Rattle.rb_meaning_code.specs.Dialogue.{Outcome, Gave, Faulted, Done, Ask, AskBatch, Run, Handler, handle, next}
use Rattle.rb_meaning_code.specs.State.{Local, bound}
use Rattle.rb_meaning_code.specs.Statements.{nothing, performs}
use Rattle.rb_meaning_split.specs.Replay.{Seen, Replayed, Rest, after, far_fault, fault_at, in_replay, on_value, own_fault, stopped, taken, unless}
use Rattle.rb_base.specs.Devices.{Device}
use Rattle.rb_base.specs.declared.sinks.Failed.{Failed}
use Rattle.rb_base.specs.declared.sinks.Sink as sinks
use Rattle.rb_engine.specs.Code.{stmts_run, value_run}
use Rattle.rb_engine.specs.Meets.{Led, Runs}
use Rattle.rb_engine.specs.declared.ends.End.{End}
use Rattle.rb_engine.specs.declared.ends.End.TheVariants as end
use Rattle.rb_wire_forest.specs.Fronts.{end_seen, fault_seen}
use Rattle.rb_wire_forest.specs.Opens.{Open, AtNode}
use Rattle.rb_wire_forest.specs.Opened.{opened}
use Rattle.rb_wire_forest.specs.declared.heads.LentFault.{LentFault}
use Rattle.rb_client.specs.Ends.{early_of}
use Rattle.rb_client.specs.Events.{Adds}
use Rattle.rb_client.specs.Missed.{fault_open, taken_open}
use Rattle.rb_client.specs.Walks.{Does, Meaning, Performs, all_meant, bind_meant, both_meant, form_meant, part_meant, pass_meant, plain_meant}
use Rattle.rb_client.specs.Worlds.{CutsReplay, SeesReplay, Takes, replay_view}
use Rattle.rb_client.specs.declared.early.Early.{Early}
use Rattle.rb_client.specs.declared.early.Early.TheVariants as early
use Rattle.rb_client.specs.declared.replay_world.ReplayWorld.{ReplayWorld}
use Rattle.rb_client.proofs.Adding.{after_more, parts_more}
use Rattle.rb_client.proofs.Answering.{cut_later, replay_as, taken_seen, within}
use Rattle.rb_client.proofs.Dropped.{dropped_one}
use Rattle.rb_client.proofs.Events.{adding, no_more}
use Rattle.rb_client.proofs.Missed.{fault_seen_at}
use Rattle.rb_client.proofs.Told.{told}

pub by_result : {W : Type 0} {g : sinks.Ghosts W} {m : Meaning} {l l' : Local} {w w' : ReplayWorld W} {r r1 : Result (Unit {0}) Early} → r ≡ r1 → Performs g m l w r1 l' w' → Performs g m l w r l' w'
by_result {g = g} {m = m} {l = l} {l' = l'} {w = w} {w' = w'} e h = subst (λ x. Performs g m l w x l' w') (sym e) h

pub does_as : {W : Type 0} (g : sinks.Ghosts W) (out : MutBor W) (start : Device (List ℕ)) (sees : ReplayWorld W → Seen → Type 0) (r : Result (Unit {0}) Early) (m m1 : Rest → Replayed) (l : Local) (w : ReplayWorld W) → ((go : Rest) → m go ≡ m1 go)
    → Does g out start sees m1 r l w → Does g out start sees m r l w
does_as g out start sees (Ok u) m m1 l w e (s, seen, h) = (s, seen, λ go. e go ∙ h go)
does_as g out start sees (Err (early.Raised r)) m m1 l w e (s, seen, h) = (s, seen, λ go. e go ∙ h go)
does_as g out start sees (Err early.WriteFault) m m1 l w e h = λ go adds. subst (λ x. CutsReplay g out start w x.events) (sym (e go)) (h go adds)
does_as g out start sees (Err early.Memory) m m1 l w e h = tt

-- the same, whatever surrounds it and follows
pub as_meant : {W : Type 0} {g : sinks.Ghosts W} {m m1 : Meaning} {l l' : Local} {w w' : ReplayWorld W} {r : Result (Unit {0}) Early} → ((gas : ℕ) (s : Seen) (go : Rest) → m gas l s go ≡ m1 gas l s go)
    → Performs g m1 l w r l' w' → Performs g m l w r l' w'
as_meant {g = g} {m = m} {m1 = m1} {l = l} {l' = l'} {w' = w'} {r = r} e h = record {
  fuel = h.fuel;
  depth = h.depth;
  does = λ gas le out start below s sees. does_as g out start (SeesReplay g out start below) r (m gas l s) (m1 gas l s) l' w' (λ go. e gas s go) (h.does gas le out start below s sees);
}

-- for want of memory nothing is said
pub want : {W : Type 0} (g : sinks.Ghosts W) (m : Meaning) (l l' : Local) (w w' : ReplayWorld W) (r : Result (Unit {0}) Early) (h : Early) → r ≡ Err h → h ≡ early.Memory → l'.fuel ≤ l.fuel → l'.depth ≡ l.depth → Performs g m l w r l' w'
want g m l l' w w' r h is so fuel depth = by_result (is ∙ ap Err so) (record { fuel = fuel; depth = depth; does = λ gas le out start below s sees. tt })

-- the whole goes on as what is left of it, from a later local state and World
pub record On {W : Type 0} (g : sinks.Ghosts W) (whole rest : Meaning) (l0 : Local) (w0 : ReplayWorld W) (l : Local) (w : ReplayWorld W) : Type 0 where
  pub fuel : l.fuel ≤ l0.fuel
  pub depth : l.depth ≡ l0.depth
  pub leads : (gas : ℕ) → l0.fuel ≤ gas → (out : MutBor W) (start : Device (List ℕ)) (below : List Open) (s : Seen) → SeesReplay g out start below w0 s
      → (s1 : Seen) × SeesReplay g out start below w s1 × ((go : Rest) → whole gas l0 s go ≡ rest gas l s1 go)

pub on_begin : {W : Type 0} (g : sinks.Ghosts W) (m : Meaning) (l : Local) (w : ReplayWorld W) → On g m m l w l w
on_begin g m l w = record { fuel = omega arith; depth = refl; leads = λ gas le out start below s sees. (s, sees, λ go. refl) }

-- what is left is performed
pub on_ends : {W : Type 0} {g : sinks.Ghosts W} {whole rest : Meaning} {l0 l l' : Local} {w0 w w' : ReplayWorld W} {r : Result (Unit {0}) Early} → On g whole rest l0 w0 l w → Performs g rest l w r l' w' → Performs g whole l0 w0 r l' w'
on_ends {g = g} {whole = whole} {rest = rest} {l0 = l0} {l = l} {l' = l'} {w' = w'} {r = r} on h =
    let a = on.fuel in
    let b = h.fuel in
    record {
      fuel = omega arith;
      depth = h.depth ∙ on.depth;
      does = λ gas le out start below s sees.
          let t = on.leads gas le out start below s sees in
          does_as g out start (SeesReplay g out start below) r (whole gas l0 s) (rest gas l t.0) l' w' t.2 (h.does gas (omega arith) out start below t.0 t.1);
    }

-- a part of it is performed, and the rest is left
pub on_more : {W : Type 0} {g : sinks.Ghosts W} {whole first rest : Meaning} {l0 l l1 : Local} {w0 w w1 : ReplayWorld W} {r : Result (Unit {0}) Early} {u : Unit {0}}
    → On g whole (λ gas l s go. first gas l s (λ l1 s1. rest gas l1 s1 go)) l0 w0 l w → Performs g first l w r l1 w1 → r ≡ Ok u → On g whole rest l0 w0 l1 w1
on_more {g = g} {first = first} {rest = rest} {l = l} {l1 = l1} {w1 = w1} on h is =
    let a = on.fuel in
    let b = h.fuel in
    record {
      fuel = omega arith;
      depth = h.depth ∙ on.depth;
      leads = λ gas le out start below s sees.
          let t = on.leads gas le out start below s sees in
          let d = subst (λ x. Does g out start (SeesReplay g out start below) (first gas l t.0) x l1 w1) is (h.does gas (omega arith) out start below t.0 t.1) in
          (d.0, d.1, λ go. t.2 go ∙ d.2 (λ l2 s2. rest gas l2 s2 go));
    }

pub stops_early : {W : Type 0} (g : sinks.Ghosts W) (out : MutBor W) (start : Device (List ℕ)) (sees : ReplayWorld W → Seen → Type 0) (e : Early) (m : Rest → Replayed) (f : Rest → Rest) (l : Local) (w : ReplayWorld W)
    → ((go : Rest) → Adds go → Adds (f go)) → Does g out start sees m (Err e) l w → Does g out start sees (λ go. m (f go)) (Err e) l w
stops_early g out start sees (early.Raised r) m f l w more (s, seen, h) = (s, seen, λ go. h (f go))
stops_early g out start sees early.WriteFault m f l w more h = λ go adds. h (f go) (more go adds)
stops_early g out start sees early.Memory m f l w more h = tt

-- a part of it ended early, and so does the whole
pub on_stops : {W : Type 0} {g : sinks.Ghosts W} {whole first : Meaning} {l0 l l1 : Local} {w0 w w1 : ReplayWorld W} {r q : Result (Unit {0}) Early} {e : Early} (rest : Meaning)
    → On g whole (λ gas l s go. first gas l s (λ l1 s1. rest gas l1 s1 go)) l0 w0 l w → ((gas : ℕ) (go : Rest) → Adds go → Adds (λ l1 s1. rest gas l1 s1 go))
    → Performs g first l w r l1 w1 → r ≡ Err e → q ≡ Err e → Performs g whole l0 w0 q l1 w1
on_stops {g = g} {first = first} {l = l} {l1 = l1} {w1 = w1} {e = e} rest on more h is so = by_result so (on_ends on (record {
  fuel = h.fuel;
  depth = h.depth;
  does = λ gas le out start below s sees.
      stops_early g out start (SeesReplay g out start below) e (first gas l s) (λ go l1 s1. rest gas l1 s1 go) l1 w1 (more gas)
      (subst (λ x. Does g out start (SeesReplay g out start below) (first gas l s) x l1 w1) is (h.does gas le out start below s sees));
}))

-- Parts in order.

pub all_adds : (classes : List class.Class) (ps : List part.Part) (gas : ℕ) (go : Rest) → Adds go → Adds (λ l s. all_meant classes ps gas l s go)
all_adds classes ps gas go adds l s = parts_more adding (map mirror_class classes) gas (mirror_parts ps) l s go adds

pub on_as : {W : Type 0} {g : sinks.Ghosts W} {whole rest rest1 : Meaning} {l0 l : Local} {w0 w : ReplayWorld W} → ((gas : ℕ) (s : Seen) (go : Rest) → rest gas l s go ≡ rest1 gas l s go) → On g whole rest l0 w0 l w → On g whole rest1 l0 w0 l w
on_as e on = record {
  fuel = on.fuel;
  depth = on.depth;
  leads = λ gas le out start below s sees. let t = on.leads gas le out start below s sees in (t.0, t.1, λ go. t.2 go ∙ e gas t.0 go);
}

-- the first of those from a place on
abbrev AllOn : {W : Type 0} → sinks.Ghosts W → List class.Class → List part.Part → ℕ → Local → ReplayWorld W → Local → ReplayWorld W → Type 0
AllOn g classes ps i l0 w0 l w = On g (all_meant classes ps) (all_meant classes (drop i ps)) l0 w0 l w

part_on : {W : Type 0} {g : sinks.Ghosts W} {l0 l : Local} {w0 w : ReplayWorld W} (classes : List class.Class) (ps : List part.Part) (i : ℕ) (p : part.Part) → i < length ps → p ≡ get_or ps i p → AllOn g classes ps i l0 w0 l w
    → On g (all_meant classes ps) (λ gas l s go. part_meant classes p gas l s (λ l1 s1. all_meant classes (drop (i + 1) ps) gas l1 s1 go)) l0 w0 l w
part_on {l = l} classes ps i p h is on = on_as (λ gas s go. ap (λ xs. all_meant classes xs gas l s go) (dropped_one ps i p h is)) on

pub all_more : {W : Type 0} {g : sinks.Ghosts W} {l0 l l1 : Local} {w0 w w1 : ReplayWorld W} {r : Result (Unit {0}) Early} {u : Unit {0}} (classes : List class.Class) (ps : List part.Part) (i : ℕ) (p : part.Part) → i < length ps → p ≡ get_or ps i p
    → AllOn g classes ps i l0 w0 l w → Performs g (part_meant classes p) l w r l1 w1 → r ≡ Ok u → AllOn g classes ps (i + 1) l0 w0 l1 w1
all_more classes ps i p h is on did so = on_more (part_on classes ps i p h is on) did so

pub all_cut : {W : Type 0} {g : sinks.Ghosts W} {l0 l l1 : Local} {w0 w w1 : ReplayWorld W} {r q : Result (Unit {0}) Early} {e : Early} (classes : List class.Class) (ps : List part.Part) (i : ℕ) (p : part.Part) → i < length ps → p ≡ get_or ps i p
    → AllOn g classes ps i l0 w0 l w → Performs g (part_meant classes p) l w r l1 w1 → r ≡ Err e → q ≡ Err e → Performs g (all_meant classes ps) l0 w0 q l1 w1
all_cut classes ps i p h is on did so end = on_stops (all_meant classes (drop (i + 1) ps)) (part_on classes ps i p h is on) (λ gas go adds. all_adds classes (drop (i + 1) ps) gas go adds) did so end

nothing_left : {W : Type 0} (g : sinks.Ghosts W) (classes : List class.Class) (l : Local) (w : ReplayWorld W) → Performs g (all_meant classes []) l w (Ok tt) l w
nothing_left g classes l w = record { fuel = omega arith; depth = refl; does = λ gas le out start below s sees. (s, sees, λ go. refl) }

pub all_end : {W : Type 0} {g : sinks.Ghosts W} {l0 l : Local} {w0 w : ReplayWorld W} (classes : List class.Class) (ps : List part.Part) (i : ℕ) → length ps ≤ i → AllOn g classes ps i l0 w0 l w → Performs g (all_meant classes ps) l0 w0 (Ok tt) l w
all_end {g = g} {l = l} {w = w} classes ps i h on =
    on_ends (on_as (λ gas s go. ap (λ xs. all_meant classes xs gas l s go) (drop_all i ps h)) on) (nothing_left g classes l w)

-- a part of a known form
pub of_form : {W : Type 0} {g : sinks.Ghosts W} {l l' : Local} {w w' : ReplayWorld W} {r : Result (Unit {0}) Early} (classes : List class.Class) (p : part.Part) (m : Part) → mirror_part p ≡ m
    → Performs g (form_meant classes m) l w r l' w' → Performs g (part_meant classes p) l w r l' w'
of_form {l = l} classes p m is h = as_meant (λ gas s go. ap (λ x. form_meant classes x gas l s go) is) h

-- Code that is led.

after_gave : {A : Type 0} (r : Outcome A × Seen) (go : A → Rest) (a : A) (l : Local) → Gave a l ≡ r.0 → after r go ≡ go a l r.1
after_gave (o, s) go a l e = subst (λ x. after (x, s) go ≡ go a l s) e refl

after_faulted : {A : Type 0} (r : Outcome A × Seen) (go : A → Rest) (f : Raised) (l : Local) → Faulted f l ≡ r.0 → after r go ≡ stopped f l r.1
after_faulted (o, s) go f l e = subst (λ x. after (x, s) go ≡ stopped f l s) e refl

-- what the engine tells of a run, which is gone on after
abbrev pub Leads : {W A : Type 0} → sinks.Ghosts W → MutBor W → Device (List ℕ) → List Open → Outcome A × Seen → Result A Early → Local → ReplayWorld W → Type 0
Leads g out start below handled (Ok a) l w = (Gave a l ≡ handled.0) × SeesReplay g out start below w handled.1
Leads g out start below handled (Err (early.Raised r)) l w = (Faulted r l ≡ handled.0) × SeesReplay g out start below w handled.1
Leads g out start below handled (Err early.WriteFault) l w = CutsReplay g out start w handled.1.events
Leads g out start below handled (Err early.Memory) l w = Unit {0}

led_leads : {W A : Type 0} (g : sinks.Ghosts W) (out : MutBor W) (start : Device (List ℕ)) (below : List Open) (d : Run A) (w w' : ReplayWorld W) (s : Seen) (l : Local) (r : Result A (End Failed)) → SeesReplay g out start below w s
    → Led (within g) d w l r w' → Leads g out start below (handle in_replay d s) (early_of r) l w'
led_leads g out start below d w w' s l (Ok a) sees h = told (replay_view g out start below) (within g) in_replay (replay_as g out start below) d w w' s (Ok (Gave a l)) sees h
led_leads g out start below d w w' s l (Err (end.Raised f)) sees h = told (replay_view g out start below) (within g) in_replay (replay_as g out start below) d w w' s (Ok (Faulted f l)) sees h
led_leads g out start below d w w' s l (Err end.NoMemory) sees h = tt
led_leads g out start below d w w' s l (Err (end.Stopped x)) sees h = told (replay_view g out start below) (within g) in_replay (replay_as g out start below) d w w' s (Err x) sees h

-- a run and nothing after it is the run
one_run : {S : Type 0} (h : Handler S) (d : Run (Unit {0})) (s : S) → handle h (next d (λ u l. nothing l)) s ≡ handle h d s
one_run h (Done (Gave u l)) s = refl
one_run h (Done (Faulted r l)) s = refl
one_run h (Ask q go) s = one_run h (go (h.answer s q).0) (h.answer s q).1
one_run h (AskBatch at l go) s = one_run h (go (h.batch s at l).0) (h.batch s at l).1

leads_does : {W : Type 0} (g : sinks.Ghosts W) (out : MutBor W) (start : Device (List ℕ)) (below : List Open) (handled : Outcome (Unit {0}) × Seen) (r : Result (Unit {0}) Early) (l : Local) (w : ReplayWorld W) → Leads g out start below handled r l w
    → Does g out start (SeesReplay g out start below) (λ go. after handled (λ u l1 s1. go l1 s1)) r l w
leads_does g out start below handled (Ok u) l w h = (handled.1, h.1, λ go. after_gave handled (λ u l1 s1. go l1 s1) u l h.0)
leads_does g out start below handled (Err (early.Raised f)) l w h = (handled.1, h.1, λ go. after_faulted handled (λ u l1 s1. go l1 s1) f l h.0)
leads_does g out start below handled (Err early.WriteFault) l w h = λ go adds.
    cut_later g out start w handled.1.events (after handled (λ u l1 s1. go l1 s1)).events (after_more adding handled (λ u l1 s1. go l1 s1) handled.1.events (no_more handled.1.events) (λ u. adds)) h
leads_does g out start below handled (Err early.Memory) l w h = tt

-- a statement
pub plain_so : {W : Type 0} (g : sinks.Ghosts W) (classes : List class.Class) (x : stmt.Stmt) (xs : List stmt.Stmt) (l l' : Local) (w w' : ReplayWorld W) (r : Result (Unit {0}) (End Failed)) (q : Result (Unit {0}) Early)
    → xs ≡ x ∷ [] → q ≡ early_of r → Runs (within g) (stmts_run classes xs) (record { local = l; world = w }) r (record { local = l'; world = w' }) → Performs g (plain_meant classes x) l w q l' w'
plain_so g classes x xs l l' w w' r q one is h = by_result is (record {
  fuel = h.fuel;
  depth = h.depth;
  does = λ gas le out start below s sees.
      let run : Run (Unit {0}) = performs (bodies_of (map mirror_class classes) gas) gas (mirror_stmt x) l in
      let led = subst (λ ys. Led (within g) (stmts_run classes ys gas l) w l' r w') one (h.led gas le) in
      leads_does g out start below (handle in_replay run s) (early_of r) l' w'
      (subst (λ y. Leads g out start below y (early_of r) l' w') (one_run in_replay run s)
      (led_leads g out start below (stmts_run classes (x ∷ []) gas l) w w' s l' r sees led));
})

-- The place of a step, and its fault.

-- the fault that was found at a step
found_at : (step : ℕ) (os : List Open) (n : Node) (below : List Open) (seen : Option LentFault) → os ≡ AtNode n ∷ below → end_seen seen ≡ fault_open step os → fault_at step n ≡ end_seen seen
found_at step os n below seen is e = sym (fault_seen_at step n below) ∙ ap (fault_open step) (sym is) ∙ sym e

-- a fault of the node at a step is raised, by its side
pub fault_so : {W : Type 0} (g : sinks.Ghosts W) (side : NodeFault → Raised) (m : Meaning) (other : ℕ → Local → Seen → Rest → Replayed) (l : Local) (w : ReplayWorld W) (step : ℕ) (seen : Option LentFault) (f : LentFault) (r : Raised) (q : Result (Unit {0}) Early)
    → ((gas : ℕ) (s : Seen) (go : Rest) → m gas l s go ≡ unless (fault_at step s.node) side l s (other gas l s go)) → end_seen seen ≡ fault_open step (opened w.left) → seen ≡ Some f → r ≡ side (fault_seen f) → q ≡ Err (early.Raised r) → Performs g m l w q l w
fault_so g side m other l w step seen f r q means e is raised end = by_result end (record {
  fuel = omega arith;
  depth = refl;
  does = λ gas le out start below s sees. (
    s,
    sees,
    λ go.
        means gas s go ∙ ap (λ o. unless o side l s (other gas l s go)) (found_at step (opened w.left) s.node below seen sees.open_so e ∙ ap end_seen is)
        ∙ ap (λ x. stopped x l s) (sym raised),
  );
})

-- the place of a step without a fault
pub pass_so : {W : Type 0} (g : sinks.Ghosts W) (l : Local) (w : ReplayWorld W) (step : ℕ) (seen : Option LentFault) → end_seen seen ≡ fault_open step (opened w.left) → seen ≡ None → Performs g (pass_meant step) l w (Ok tt) l w
pass_so g l w step seen e is = record {
  fuel = omega arith;
  depth = refl;
  does = λ gas le out start below s sees. (s, sees, λ go. ap (λ o. unless o far_fault l s (go l s)) (found_at step (opened w.left) s.node below seen sees.open_so e ∙ ap end_seen is));
}

-- Values that are bound.

pub bind_so : {W : Type 0} (g : sinks.Ghosts W) (l l' : Local) (w w' : ReplayWorld W) (step : ℕ) (name : List ℕ) (t : Result Value Early) (v : Value) → Takes (taken_open step (opened w.left)) w t w' → t ≡ Ok v → l' ≡ bound name v l
    → Performs g (bind_meant step name) l w (Ok tt) l' w'
bind_so g l l' w w' step name t v takes is end =
    let k = subst (λ x. Takes (taken_open step (opened w.left)) w x w') is takes in
    let fuel : l'.fuel ≡ l.fuel = ap (λ x. x.fuel) end in
    record {
      fuel = omega (arith, fuel);
      depth = ap (λ x. x.depth) end;
      does = λ gas le out start below s sees.
          let e = taken_seen g out start below w w' s step (Ok v) sees k.0 k.1 in
          let n = (taken step s.node).1 in
          (record s { node = n }, e.1, λ go. ap (λ x. on_value x l s (λ v s1. go (bound name v l) s1)) e.0 ∙ ap (λ x. go x (record s { node = n })) (sym end));
    }

-- no value was read
pub bind_stops : {W : Type 0} (g : sinks.Ghosts W) (l : Local) (w w' : ReplayWorld W) (step : ℕ) (name : List ℕ) (t : Result Value Early) (x : Early) (q : Result (Unit {0}) Early) → Takes (taken_open step (opened w.left)) w t w' → t ≡ Err x → q ≡ Err x
    → Performs g (bind_meant step name) l w q l w'
bind_stops {W = W} g l w w' step name t x q takes is end = by_result end (record {
  fuel = omega arith;
  depth = refl;
  does = λ gas le out start below s sees. by_end out start below s sees gas x (subst (λ y. Takes (taken_open step (opened w.left)) w y w') is takes);
})
  where
    by_end : (out : MutBor W) (start : Device (List ℕ)) (below : List Open) (s : Seen) → SeesReplay g out start below w s → (gas : ℕ) (x : Early) → Takes (taken_open step (opened w.left)) w (Err x) w'
        → Does g out start (SeesReplay g out start below) (bind_meant step name gas l s) (Err x) l w'
    by_end out start below s sees gas (early.Raised r) k =
        let e = taken_seen g out start below w w' s step (Err r) sees k.0 k.1 in
        (record s { node = (taken step s.node).1 }, e.1, λ go. ap (λ y. on_value y l s (λ v s1. go (bound name v l) s1)) e.0)
    by_end out start below s sees gas early.WriteFault k = absurd k
    by_end out start below s sees gas early.Memory k = tt

-- What is evaluated on both sides.

-- what is bound where the code gave a value
bound_does : {W : Type 0} (g : sinks.Ghosts W) (out : MutBor W) (start : Device (List ℕ)) (below : List Open) (name : List ℕ) (handled : Outcome Value × Seen) (v : Value) (l l' : Local) (w : ReplayWorld W) → Leads g out start below handled (Ok v) l w → l' ≡ bound name v l
    → Does g out start (SeesReplay g out start below) (λ go. after handled (λ x l1 s1. go (bound name x l1) s1)) (Ok tt) l' w
bound_does g out start below name handled v l l' w h end =
    (handled.1, h.1, λ go. after_gave handled (λ x l1 s1. go (bound name x l1) s1) v l h.0 ∙ ap (λ x. go x handled.1) (sym end))

missed_does : {W : Type 0} (g : sinks.Ghosts W) (out : MutBor W) (start : Device (List ℕ)) (below : List Open) (name : List ℕ) (handled : Outcome Value × Seen) (e : Early) (l : Local) (w : ReplayWorld W) → Leads g out start below handled (Err e) l w
    → Does g out start (SeesReplay g out start below) (λ go. after handled (λ x l1 s1. go (bound name x l1) s1)) (Err e) l w
missed_does g out start below name handled (early.Raised f) l w h = (handled.1, h.1, λ go. after_faulted handled (λ x l1 s1. go (bound name x l1) s1) f l h.0)
missed_does g out start below name handled early.WriteFault l w h = λ go adds.
    cut_later g out start w handled.1.events (after handled (λ x l1 s1. go (bound name x l1) s1)).events
    (after_more adding handled (λ x l1 s1. go (bound name x l1) s1) handled.1.events (no_more handled.1.events) (λ x l1 s1. adds (bound name x l1) s1)) h
missed_does g out start below name handled early.Memory l w h = tt

-- no fault was found at the step
both_goes : (classes : List class.Class) (l : Local) (step : ℕ) (name : List ℕ) (e : expr.Expr) (gas : ℕ) (s : Seen) (go : Rest) → fault_at step s.node ≡ None
    → both_meant classes step name e gas l s go ≡ after (handle in_replay (value_run classes e gas l) s) (λ v l1 s1. go (bound name v l1) s1)
both_goes classes l step name e gas s go is = ap (λ o. unless o own_fault l s (after (handle in_replay (value_run classes e gas l) s) (λ v l1 s1. go (bound name v l1) s1))) is

module _ {W : Type 0} (g : sinks.Ghosts W) (classes : List class.Class) (l l1 : Local) (w w' : ReplayWorld W) (step : ℕ) (name : List ℕ) (e : expr.Expr) (r : Result Value (End Failed)) (t : Result Value Early) (seen : Option LentFault)
    (at_step : end_seen seen ≡ fault_open step (opened w.left)) (none : seen ≡ None)
    (h : Runs (within g) (value_run classes e) (record { local = l; world = w }) r (record { local = l1; world = w' })) (so : t ≡ early_of r) where
  both_leads : (gas : ℕ) → l.fuel ≤ gas → (out : MutBor W) (start : Device (List ℕ)) (below : List Open) (s : Seen) → SeesReplay g out start below w s → Leads g out start below (handle in_replay (value_run classes e gas l) s) t l1 w'
  both_leads gas le out start below s sees =
      subst (λ x. Leads g out start below (handle in_replay (value_run classes e gas l) s) x l1 w') (sym so) (led_leads g out start below (value_run classes e gas l) w w' s l1 r sees (h.led gas le))

  none_at : (below : List Open) (s : Seen) → opened w.left ≡ AtNode s.node ∷ below → fault_at step s.node ≡ None
  none_at below s is = found_at step (opened w.left) s.node below seen is at_step ∙ ap end_seen none

  pub both_so : (v : Value) (l' : Local) → t ≡ Ok v → l' ≡ bound name v l1 → Performs g (both_meant classes step name e) l w (Ok tt) l' w'
  both_so v l' is end =
      let a = h.fuel in
      let b : l'.fuel ≡ l1.fuel = ap (λ x. x.fuel) end in
      record {
        fuel = omega (arith, a, b);
        depth = ap (λ x. x.depth) end ∙ h.depth;
        does = λ gas le out start below s sees.
            does_as g out start (SeesReplay g out start below) (Ok tt) (both_meant classes step name e gas l s) (λ go. after (handle in_replay (value_run classes e gas l) s) (λ x l2 s2. go (bound name x l2) s2)) l' w'
            (λ go. both_goes classes l step name e gas s go (none_at below s sees.open_so))
            (bound_does g out start below name (handle in_replay (value_run classes e gas l) s) v l1 l' w'
            (subst (λ x. Leads g out start below (handle in_replay (value_run classes e gas l) s) x l1 w') is (both_leads gas le out start below s sees)) end);
      }

  pub both_stops : (x : Early) (q : Result (Unit {0}) Early) → t ≡ Err x → q ≡ Err x → Performs g (both_meant classes step name e) l w q l1 w'
  both_stops x q is end = by_result end (record {
    fuel = h.fuel;
    depth = h.depth;
    does = λ gas le out start below s sees.
        does_as g out start (SeesReplay g out start below) (Err x) (both_meant classes step name e gas l s) (λ go. after (handle in_replay (value_run classes e gas l) s) (λ y l2 s2. go (bound name y l2) s2)) l1 w'
        (λ go. both_goes classes l step name e gas s go (none_at below s sees.open_so))
        (missed_does g out start below name (handle in_replay (value_run classes e gas l) s) x l1 w'
        (subst (λ y. Leads g out start below (handle in_replay (value_run classes e gas l) s) y l1 w') is (both_leads gas le out start below s sees)));
  })

-- the fault was found at the step
pub both_fault : {W : Type 0} (g : sinks.Ghosts W) (classes : List class.Class) (l : Local) (w : ReplayWorld W) (step : ℕ) (name : List ℕ) (e : expr.Expr) (seen : Option LentFault) (f : LentFault) (r : Raised) (q : Result (Unit {0}) Early)
    → end_seen seen ≡ fault_open step (opened w.left) → seen ≡ Some f → r ≡ own_fault (fault_seen f) → q ≡ Err (early.Raised r) → Performs g (both_meant classes step name e) l w q l w
both_fault g classes l w step name e seen f r q at_step is raised end =
    fault_so g own_fault (both_meant classes step name e) (λ gas l s go. after (handle in_replay (value_run classes e gas l) s) (λ v l1 s1. go (bound name v l1) s1)) l w step seen f r q (λ gas s go. refl) at_step is raised end
