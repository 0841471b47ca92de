-- How parts are performed on nodes of their own: branches, and turns over rows.
use Rattle.std.proofs.Common.{◌≡◌, refl, sym, ap, ◌∙◌, subst, ℕ, suc, ◌+◌, ◌<◌, ◌≤◌, arith, List, ◌∷◌, length}
use Rattle.std.specs.Prelude.{Bool, true, false, cond, None, Some, Result, Ok, Err}
use Rattle.std.specs.Borrow.{MutBor}
use Rattle.rb_trees.specs.declared.declarations.Class as class
use Rattle.rb_trees.specs.declared.outcomes.Raised.{Raised}
use Rattle.rb_trees.specs.declared.remainders.Part as part
use Rattle.rb_trees.specs.mirror.Forests.{Node, Nodes, NoNodes, MoreNodes}
use Rattle.rb_trees.specs.mirror.Remainders.{Turns, mirror_parts}
use Rattle.rb_meaning_bytes.specs.Fits.{is_kept}
use Rattle.rb_meaning_bytes.specs.formats.ForestBytes.{count_nodes}
use Rattle.rb_meaning_code.specs.Dialogue.{Outcome, Gave, Faulted}
use Rattle.rb_meaning_code.specs.State.{Local, bound, closed}
use Rattle.rb_meaning_split.specs.Client.{left}
use Rattle.rb_meaning_split.specs.Replay.{Seen, Replayed, Rest, behind, behind_end, ended, far_fault, fault_at, missed, on_rows, on_turn, stopped, turns}
use Rattle.rb_base.specs.Devices.{Device, failed}
use Rattle.rb_base.specs.Sinks.{WrotePrefix}
use Rattle.rb_base.specs.declared.sinks.Sink as sinks
use Rattle.rb_meaning.specs.Shown.{shown_events}
use Rattle.rb_meaning.specs.State.{Event}
use Rattle.rb_wire_forest.specs.CursorSteps.{Moves, next_branch, next_rows, next_turn}
use Rattle.rb_wire_forest.specs.CursorSteps as steps
use Rattle.rb_wire_forest.specs.Opens.{Open, AtNode, AtRows}
use Rattle.rb_wire_forest.specs.Opened.{opened}
use Rattle.rb_client.specs.Events.{Adds, More}
use Rattle.rb_client.specs.Missed.{missed_open}
use Rattle.rb_client.specs.Walks.{Does, Encloses, Ends, Meaning, Performs, PerformsTurns, SeesRows, SeesSomeRows, all_meant, bind_meant, branch_meant, form_meant, pass_meant, rows_meant, rows_turned, turn_meant, turns_over}
use Rattle.rb_client.specs.Worlds.{SeesOpen, SeesReplay, output}
use Rattle.rb_client.specs.declared.early.Early.{Early}
use Rattle.rb_client.specs.declared.early.Early.TheVariants as early
use Rattle.rb_client.specs.declared.replay.Loop.{Loop}
use Rattle.rb_client.specs.declared.replay_world.ReplayWorld.{ReplayWorld}
use Rattle.rb_client.proofs.Adding.{behind_more, ended_adds, on_turn_more, turns_more, unless_more}
use Rattle.rb_client.proofs.Answering.{cut_later, sees_moved}
use Rattle.rb_client.proofs.Events.{adding, no_more}
use Rattle.rb_client.proofs.Missed.{branched, closed_to, missed_at, no_branch, no_rows, rowed, turned_to}
use Rattle.rb_client.proofs.Parted.{all_adds, as_meant, by_result, does_as, on_begin, on_ends, on_more, on_stops, stops_early}

-- What is performed on a node, to its end; then its names go, and the node is closed.

module _ {W : Type 0} (g : sinks.Ghosts W) (out : MutBor W) (start : Device (List ℕ)) (outer : Open) (below : List Open) (count : ℕ) (m : Rest → Replayed) (l1 l3 : Local) (w2 w3 : ReplayWorld W) (did : Bool)
    (same : w3.out ≡ w2.out) (shut : Moves steps.closed (opened w2.left) did (opened w3.left)) (end : l3 ≡ closed count l1) where
  ends_so : (r : Result (Unit {0}) Early) → Does g out start (SeesReplay g out start (outer ∷ below)) m r l1 w2 → Ends g out start (outer ∷ below) count (m ended) r l3 w3
  ends_so (Ok u) (s, sees, h) = (
    ap (λ x. left count x.outcome) (h ended) ∙ ap (λ x. Gave tt x) (sym end),
    subst (λ x. SeesOpen g out start (outer ∷ below) w3 x.events) (sym (h ended))
        (sees_moved g out start (AtNode s.node ∷ outer ∷ below) (outer ∷ below) w2 w3 s.events sees same (closed_to (AtNode s.node) outer below (opened w2.left) (opened w3.left) did sees.open_so shut)),
  )
  ends_so (Err (early.Raised f)) (s, sees, h) = (
    ap (λ x. left count x.outcome) (h ended) ∙ ap (λ x. Faulted f x) (sym end),
    subst (λ x. SeesOpen g out start (outer ∷ below) w3 x.events) (sym (h ended))
        (sees_moved g out start (AtNode s.node ∷ outer ∷ below) (outer ∷ below) w2 w3 s.events sees same (closed_to (AtNode s.node) outer below (opened w2.left) (opened w3.left) did sees.open_so shut)),
  )
  ends_so (Err early.WriteFault) h =
      let c = h ended (ended_adds adding) in
      record {
        same_output = ap (λ o. o.ghost_name) same ∙ c.same_output;
        written = subst (λ o. WrotePrefix (failed start) (output g o.now) (shown_events (m ended).events)) (sym same) c.written;
      }
  ends_so (Err early.Memory) h = tt

pub enclosed_so : {W : Type 0} (g : sinks.Ghosts W) (m : Meaning) (l l1 l3 : Local) (w w2 w3 : ReplayWorld W) (r : Result (Unit {0}) Early) (did : Bool)
    → Performs g m l w r l1 w2 → w3.out ≡ w2.out → Moves steps.closed (opened w2.left) did (opened w3.left) → l3 ≡ closed (length l.names) l1 → Encloses g m l w r l3 w3
enclosed_so g m l l1 l3 w w2 w3 r did h same shut end =
    let a = h.fuel in
    let b : l3.fuel ≡ l1.fuel = ap (λ x. x.fuel) end in
    record {
      fuel = omega (arith, a, b);
      depth = ap (λ x. x.depth) end ∙ h.depth;
      ends = λ gas le out start outer below s sees.
          ends_so g out start outer below (length l.names) (m gas l s) l1 l3 w2 w3 did same shut end r (h.does gas le out start (outer ∷ below) s sees);
    }

-- what follows a block goes on from its end
pub gave_behind : (count : ℕ) (rest : Node) (o : Outcome (Unit {0})) (events : List Event) (go : Rest) (l : Local) → left count o ≡ Gave tt l → behind_end count rest o events go ≡ go l (record { events = events; node = rest })
gave_behind count rest (Gave u l1) events go l e = let same : closed count l1 ≡ l = cc e in ap (λ x. go x (record { events = events; node = rest })) same
gave_behind count rest (Faulted r l1) events go l e = absurd (cc e)

abbrev as_replayed : Outcome (Unit {0}) → List Event → Replayed
as_replayed o events = record { outcome = o; events = events }

faulted_behind : (count : ℕ) (rest : Node) (o : Outcome (Unit {0})) (events : List Event) (go : Rest) (f : Raised) (l : Local) → left count o ≡ Faulted f l → behind_end count rest o events go ≡ stopped f l (record { events = events; node = rest })
faulted_behind count rest (Gave u l1) events go f l e = absurd (cc e)
faulted_behind count rest (Faulted r l1) events go f l e = ap (λ o. as_replayed o events) e

module _ {W : Type 0} (g : sinks.Ghosts W) (out : MutBor W) (start : Device (List ℕ)) (sees : ReplayWorld W → Seen → Type 0) (open_now : List Open) (count : ℕ) (rest : Node) (r : Replayed) (l : Local) (w : ReplayWorld W)
    (seen : SeesOpen g out start open_now w r.events → sees w (record { events = r.events; node = rest })) where
  -- a block, and whatever follows it
  pub behind_does : (q : Result (Unit {0}) Early) → Ends g out start open_now count r q l w → Does g out start sees (λ go. behind count rest r go) q l w
  behind_does (Ok u) h = (record { events = r.events; node = rest }, seen h.1, λ go. gave_behind count rest r.outcome r.events go l h.0)
  behind_does (Err (early.Raised f)) h = (record { events = r.events; node = rest }, seen h.1, λ go. faulted_behind count rest r.outcome r.events go f l h.0)
  behind_does (Err early.WriteFault) h = λ go adds. cut_later g out start w r.events (behind count rest r go).events (behind_more adding count rest r go r.events (no_more r.events) adds) h
  behind_does (Err early.Memory) h = tt

-- Nothing is first that a part reads.

-- what is raised then
pub miss_so : {W : Type 0} (g : sinks.Ghosts W) (m : Meaning) (step : ℕ) (l : Local) (w w1 : ReplayWorld W) (f : Raised) (q : Result (Unit {0}) Early)
    → ((gas : ℕ) (below : List Open) (s : Seen) (go : Rest) → opened w.left ≡ AtNode s.node ∷ below → m gas l s go ≡ stopped (missed (fault_at step s.node)) l s)
    → opened w1.left ≡ opened w.left → w1.out ≡ w.out → f ≡ missed_open step (opened w1.left) → q ≡ Err (early.Raised f) → Performs g m l w q l w1
miss_so g m step l w w1 f q means stays same raised end = by_result end (record {
  fuel = omega arith;
  depth = refl;
  does = λ gas le out start below s sees. (
    s,
    sees_moved g out start (AtNode s.node ∷ below) (AtNode s.node ∷ below) w w1 s.events sees same (stays ∙ sees.open_so),
    λ go. means gas below s go sees.open_so ∙ ap (λ x. stopped x l s) (sym (missed_at step s.node below) ∙ ap (missed_open step) (sym (stays ∙ sees.open_so)) ∙ sym raised),
  );
})

-- Branches.

-- the parts that are gone on with in a branch
abbrev branch_on : List class.Class → ℕ → List part.Part → List part.Part → ℕ → Local → Seen → Rest → Bool → Node → Node → Replayed
branch_on classes step a b gas l s go holds n rest =
    behind (length l.names) rest (cond holds (all_meant classes a gas l (record s { node = n }) ended) (all_meant classes b gas l (record s { node = n }) ended)) go

branch_chosen : (classes : List class.Class) (step : ℕ) (a b ps : List part.Part) (gas : ℕ) (l : Local) (s : Seen) (go : Rest) (holds : Bool) (n rest : Node) → ps ≡ cond holds a b
    → branch_on classes step a b gas l s go holds n rest ≡ behind (length l.names) rest (all_meant classes ps gas l (record s { node = n }) ended) go
branch_chosen classes step a b ps gas l s go true n rest e = ap (λ xs. behind (length l.names) rest (all_meant classes xs gas l (record s { node = n }) ended) go) (sym e)
branch_chosen classes step a b ps gas l s go false n rest e = ap (λ xs. behind (length l.names) rest (all_meant classes xs gas l (record s { node = n }) ended) go) (sym e)

pub branch_so : {W : Type 0} (g : sinks.Ghosts W) (classes : List class.Class) (step : ℕ) (a b ps : List part.Part) (holds : Bool) (l l' : Local) (w w1 w' : ReplayWorld W) (r : Result (Unit {0}) Early)
    → next_branch (opened w.left) ≡ Some (holds, opened w1.left) → w1.out ≡ w.out → ps ≡ cond holds a b → Encloses g (all_meant classes ps) l w1 r l' w' → Performs g (branch_meant classes step a b) l w r l' w'
branch_so g classes step a b ps holds l l' w w1 w' r first same is h = record {
  fuel = h.fuel;
  depth = h.depth;
  does = λ gas le out start below s sees.
      let t = branched s.node below holds (opened w1.left) (ap next_branch (sym sees.open_so) ∙ first) in
      let inner : Seen = record s { node = t.inner } in
      let ran = all_meant classes ps gas l inner ended in
      does_as g out start (SeesReplay g out start below) r (branch_meant classes step a b gas l s) (λ go. behind (length l.names) t.rest ran go) l' w'
      (λ go. t.leads step l s (branch_on classes step a b gas l s go) ∙ branch_chosen classes step a b ps gas l s go holds t.inner t.rest is)
      (behind_does g out start (SeesReplay g out start below) (AtNode t.rest ∷ below) (length l.names) t.rest ran l' w' (λ x. x) r
      (h.ends gas le out start (AtNode t.rest) below inner (sees_moved g out start (AtNode s.node ∷ below) (AtNode t.inner ∷ AtNode t.rest ∷ below) w w1 s.events sees same t.open_so)));
}

pub branch_missed : {W : Type 0} (g : sinks.Ghosts W) (classes : List class.Class) (step : ℕ) (a b : List part.Part) (l : Local) (w w1 : ReplayWorld W) (f : Raised) (q : Result (Unit {0}) Early)
    → next_branch (opened w.left) ≡ None → opened w1.left ≡ opened w.left → w1.out ≡ w.out → f ≡ missed_open step (opened w1.left) → q ≡ Err (early.Raised f) → Performs g (branch_meant classes step a b) l w q l w1
branch_missed g classes step a b l w w1 f q none stays same raised end =
    miss_so g (branch_meant classes step a b) step l w w1 f q
    (λ gas below s go at. no_branch s.node below (ap next_branch (sym at) ∙ none) step l s (branch_on classes step a b gas l s go)) stays same raised end

-- Turns.

-- with a row, where rows are kept
pub row_kept : {W : Type 0} (g : sinks.Ghosts W) (classes : List class.Class) (t : Loop) (l l1 l' : Local) (w w1 w' : ReplayWorld W) (r q : Result (Unit {0}) Early) (u : Unit {0}) → t.kept ≡ true
    → Performs g (bind_meant t.step t.name.now) l w r l1 w1 → r ≡ Ok u → Performs g (all_meant classes t.body.now) l1 w1 q l' w' → Performs g (turn_meant classes t) l w q l' w'
row_kept g classes t l l1 l' w w1 w' r q u is bound so h =
    as_meant (λ gas s go. ap (λ k. on_turn k t.step t.name.now l s (λ l2 s2. all_meant classes t.body.now gas l2 s2 go)) is)
    (on_ends (on_more (on_begin g (λ gas l s go. bind_meant t.step t.name.now gas l s (λ l2 s2. all_meant classes t.body.now gas l2 s2 go)) l w) bound so) h)

pub row_missed : {W : Type 0} (g : sinks.Ghosts W) (classes : List class.Class) (t : Loop) (l l1 : Local) (w w1 : ReplayWorld W) (r q : Result (Unit {0}) Early) (e : Early) → t.kept ≡ true
    → Performs g (bind_meant t.step t.name.now) l w r l1 w1 → r ≡ Err e → q ≡ Err e → Performs g (turn_meant classes t) l w q l1 w1
row_missed g classes t l l1 w w1 r q e is bound so end =
    as_meant (λ gas s go. ap (λ k. on_turn k t.step t.name.now l s (λ l2 s2. all_meant classes t.body.now gas l2 s2 go)) is)
    (on_stops (all_meant classes t.body.now) (on_begin g (λ gas l s go. bind_meant t.step t.name.now gas l s (λ l2 s2. all_meant classes t.body.now gas l2 s2 go)) l w)
    (λ gas go adds. all_adds classes t.body.now gas go adds) bound so end)

pub row_none : {W : Type 0} (g : sinks.Ghosts W) (classes : List class.Class) (t : Loop) (l l' : Local) (w w' : ReplayWorld W) (r : Result (Unit {0}) Early) → t.kept ≡ false
    → Performs g (all_meant classes t.body.now) l w r l' w' → Performs g (turn_meant classes t) l w r l' w'
row_none g classes t l l' w w' r is h = as_meant (λ gas s go. ap (λ k. on_turn k t.step t.name.now l s (λ l2 s2. all_meant classes t.body.now gas l2 s2 go)) is) h

-- so many turns were begun, and those over the nodes that are left follow
pub record TurnsOn {W : Type 0} (g : sinks.Ghosts W) (classes : List class.Class) (t : Loop) (count i : ℕ) (l0 : Local) (w0 : ReplayWorld W) (l : Local) (w : ReplayWorld W) : Type 0 where
  pub fuel : l.fuel ≤ l0.fuel
  pub depth : l.depth ≡ l0.depth
  pub leads : (gas : ℕ) → l0.fuel ≤ gas → (out : MutBor W) (start : Device (List ℕ)) (below : List Open) (ns : Nodes) (s : Seen) → count_nodes ns ≡ count → SeesRows g out start below ns w0 s
      → (ns1 : Nodes) × (events : List Event) × (i + count_nodes ns1 ≡ count) × SeesRows g out start below ns1 w (record { events = events; node = s.node })
      × ((go : Rest) → turns_over classes t ns s.node gas l0 s go ≡ turns_over classes t ns1 s.node gas l (record { events = events; node = s.node }) go)

pub turns_begin : {W : Type 0} (g : sinks.Ghosts W) (classes : List class.Class) (t : Loop) (count : ℕ) (l : Local) (w : ReplayWorld W) → TurnsOn g classes t count 0 l w l w
turns_begin g classes t count l w = record { fuel = omega arith; depth = refl; leads = λ gas le out start below ns s is sees. (ns, s.events, omega (arith, is), sees, λ go. refl) }

turn_more : (classes : List class.Class) (t : Loop) (gas : ℕ) (n : Node) (l : Local) (s : Seen) → More s.events (turn_meant classes t gas l (record s { node = n }) ended).events
turn_more classes t gas n l s = on_turn_more adding t.kept t.step t.name.now l (record s { node = n }) (λ l1 s1. all_meant classes t.body.now gas l1 s1 ended) (all_adds classes t.body.now gas ended (ended_adds adding))

turns_add : (classes : List class.Class) (t : Loop) (ns : Nodes) (rest : Node) (gas : ℕ) (go : Rest) → Adds go → Adds (λ l s. turns_over classes t ns rest gas l s go)
turns_add classes t ns rest gas go adds l s =
    turns_more adding (λ n l1 events. turn_meant classes t gas l1 (record { events = events; node = n }) ended) ns rest l s.events go
    (λ n l1 es. turn_more classes t gas n l1 (record { events = es; node = n })) adds

-- there is a node for a turn
pub record HasTurn (ns : Nodes) : Type 0 where
  pub node : Node
  pub nodes : Nodes
  pub is : ns ≡ MoreNodes node nodes

pub has_turn : (ns : Nodes) → 0 < count_nodes ns → HasTurn ns
has_turn NoNodes h = absurd (omega arith)
has_turn (MoreNodes n ns) h = record { node = n; nodes = ns; is = refl }

-- the meaning of a turn on a node, to its end
abbrev turn_ran : List class.Class → Loop → ℕ → Local → List Event → Node → Replayed
turn_ran classes t gas l events n = turn_meant classes t gas l (record { events = events; node = n }) ended

-- a turn was performed on the first node that was left
record Turned {W : Type 0} (g : sinks.Ghosts W) (classes : List class.Class) (t : Loop) (count i : ℕ) (l0 l l1 : Local) (w : ReplayWorld W) (r : Result (Unit {0}) Early) (gas : ℕ) (out : MutBor W) (start : Device (List ℕ)) (below : List Open) (ns : Nodes) (rest : Node)
    (s : Seen) : Type 0 where
  events : List Event
  node : Node
  nodes : Nodes
  counted : suc i + count_nodes nodes ≡ count
  goes : (go : Rest) → turns_over classes t ns rest gas l0 s go ≡ behind (length l.names) rest (turn_ran classes t gas l events node) (λ l3 s3. turns_over classes t nodes rest gas l3 s3 go)
  ends : Ends g out start (AtRows nodes ∷ AtNode rest ∷ below) (length l.names) (turn_ran classes t gas l events node) r l1 w

-- .. from a World in which it is open
module _ {W : Type 0} {g : sinks.Ghosts W} {classes : List class.Class} {t : Loop} {count i : ℕ} {l0 l l1 : Local} {w0 w w1 w2 : ReplayWorld W} {r : Result (Unit {0}) Early} (did : Bool)
    (more : i < count) (on : TurnsOn g classes t count i l0 w0 l w) (same : w1.out ≡ w.out) (opens : Moves next_turn (opened w.left) did (opened w1.left)) (h : Encloses g (turn_meant classes t) l w1 r l1 w2) where
  module _ (gas : ℕ) (le : l0.fuel ≤ gas) (out : MutBor W) (start : Device (List ℕ)) (below : List Open) (ns : Nodes) (s : Seen) (is : count_nodes ns ≡ count) (sees : SeesRows g out start below ns w0 s) where
    turned : Turned g classes t count i l0 l l1 w2 r gas out start below ns s.node s
    turned =
        let a = on.fuel in
        let x = on.leads gas le out start below ns s is sees in
        let c = x.2 in
        let y = has_turn x.0 (omega (arith, c, more)) in
        let one : count_nodes x.0 ≡ suc (count_nodes y.nodes) = ap count_nodes y.is in
        let at : opened w.left ≡ AtRows (MoreNodes y.node y.nodes) ∷ AtNode s.node ∷ below = x.3.open_so ∙ ap (λ z. AtRows z ∷ AtNode s.node ∷ below) y.is in
        let inner : Seen = record { events = x.1; node = y.node } in
        record {
          events = x.1;
          node = y.node;
          nodes = y.nodes;
          counted = omega (arith, c, one);
          goes = λ go. x.4 go ∙ ap (λ z. turns_over classes t z s.node gas l (record { events = x.1; node = s.node }) go) y.is;
          ends = h.ends gas (omega (arith, a, le)) out start (AtRows y.nodes) (AtNode s.node ∷ below) inner
              (sees_moved g out start (AtRows x.0 ∷ AtNode s.node ∷ below) (AtNode y.node ∷ AtRows y.nodes ∷ AtNode s.node ∷ below) w w1 x.1 x.3 same
              (turned_to y.node y.nodes (AtNode s.node ∷ below) (opened w.left) (opened w1.left) did at opens));
        }

  pub turns_next : {u : Unit {0}} → r ≡ Ok u → TurnsOn g classes t count (i + 1) l0 w0 l1 w2
  turns_next {u = u} done =
      let a = on.fuel in
      let b = h.fuel in
      record {
        fuel = omega (arith, a, b);
        depth = h.depth ∙ on.depth;
        leads = λ gas le out start below ns s is sees.
            let x = turned gas le out start below ns s is sees in
            let ran = turn_ran classes t gas l x.events x.node in
            let e = subst (λ q. Ends g out start (AtRows x.nodes ∷ AtNode s.node ∷ below) (length l.names) ran q l1 w2) done x.ends in
            let c = x.counted in (
              x.nodes,
              ran.events,
              omega (arith, c),
              e.1,
              λ go. x.goes go ∙ gave_behind (length l.names) s.node ran.outcome ran.events (λ l3 s3. turns_over classes t x.nodes s.node gas l3 s3 go) l1 e.0,
            );
      }

  pub turns_cut : {e : Early} {q : Result (Unit {0}) Early} → r ≡ Err e → q ≡ Err e → PerformsTurns g classes t count l0 w0 q l1 w2
  turns_cut {e = e} {q = q} done end =
      let a = on.fuel in
      let b = h.fuel in
      record {
        fuel = omega (arith, a, b);
        depth = h.depth ∙ on.depth;
        does = λ gas le out start below ns s is sees.
            let x = turned gas le out start below ns s is sees in
            let ran = turn_ran classes t gas l x.events x.node in
            subst (λ q. Does g out start (SeesSomeRows g out start below) (turns_over classes t ns s.node gas l0 s) q l1 w2) (sym end)
            (does_as g out start (SeesSomeRows g out start below) (Err e) (turns_over classes t ns s.node gas l0 s) (λ go. behind (length l.names) s.node ran (λ l3 s3. turns_over classes t x.nodes s.node gas l3 s3 go)) l1 w2 x.goes
            (stops_early g out start (SeesSomeRows g out start below) e (λ go. behind (length l.names) s.node ran go) (λ go l3 s3. turns_over classes t x.nodes s.node gas l3 s3 go) l1 w2
            (λ go adds. turns_add classes t x.nodes s.node gas go adds)
            (behind_does g out start (SeesSomeRows g out start below) (AtRows x.nodes ∷ AtNode s.node ∷ below) (length l.names) s.node ran l1 w2 (λ z. (x.nodes, z)) (Err e)
            (subst (λ q. Ends g out start (AtRows x.nodes ∷ AtNode s.node ∷ below) (length l.names) ran q l1 w2) done x.ends))));
      }

none_left : (ns : Nodes) → count_nodes ns ≡ 0 → ns ≡ NoNodes
none_left NoNodes e = refl
none_left (MoreNodes n ns) e = absurd (omega (arith, e))

pub turns_end : {W : Type 0} {g : sinks.Ghosts W} {classes : List class.Class} {t : Loop} {count i : ℕ} {l0 l : Local} {w0 w : ReplayWorld W} → count ≤ i → TurnsOn g classes t count i l0 w0 l w → PerformsTurns g classes t count l0 w0 (Ok tt) l w
turns_end {classes = classes} {t = t} {l = l} all on = record {
  fuel = on.fuel;
  depth = on.depth;
  does = λ gas le out start below ns s is sees.
      let x = on.leads gas le out start below ns s is sees in
      let c = x.2 in
      let none = none_left x.0 (omega (arith, c, all)) in
      (record { events = x.1; node = s.node }, (x.0, x.3), λ go. x.4 go ∙ ap (λ z. turns_over classes t z s.node gas l (record { events = x.1; node = s.node }) go) none);
}

-- Loops.

module _ {W : Type 0} (g : sinks.Ghosts W) (out : MutBor W) (start : Device (List ℕ)) (below : List Open) (m : Rest → Replayed) (l : Local) (w w1 : ReplayWorld W) (did : Bool) (same : w1.out ≡ w.out) (shut : Moves steps.closed (opened w.left) did (opened w1.left)) where
  -- the rows are closed, whatever is left of them
  rows_shut : (s : Seen) → SeesSomeRows g out start below w s → SeesReplay g out start below w1 s
  rows_shut s (ns, sees) = sees_moved g out start (AtRows ns ∷ AtNode s.node ∷ below) (AtNode s.node ∷ below) w w1 s.events sees same (closed_to (AtRows ns) (AtNode s.node) below (opened w.left) (opened w1.left) did sees.open_so shut)

  pub shut_does : (r : Result (Unit {0}) Early) → Does g out start (SeesSomeRows g out start below) m r l w → Does g out start (SeesReplay g out start below) m r l w1
  shut_does (Ok u) (s, sees, h) = (s, rows_shut s sees, h)
  shut_does (Err (early.Raised f)) (s, sees, h) = (s, rows_shut s sees, h)
  shut_does (Err early.WriteFault) h = λ go adds.
      let c = h go adds in
      record {
        same_output = ap (λ o. o.ghost_name) same ∙ c.same_output;
        written = subst (λ o. WrotePrefix (failed start) (output g o.now) (shown_events (m go).events)) (sym same) c.written;
      }
  shut_does (Err early.Memory) h = tt

pub turned_so : {W : Type 0} (g : sinks.Ghosts W) (classes : List class.Class) (t : Loop) (count : ℕ) (l l1 : Local) (w w1 w2 w3 : ReplayWorld W) (r : Result (Unit {0}) Early) (did : Bool)
    → next_rows (opened w.left) ≡ Some (count, opened w1.left) → w1.out ≡ w.out → PerformsTurns g classes t count l w1 r l1 w2 → w3.out ≡ w2.out → Moves steps.closed (opened w2.left) did (opened w3.left) → Performs g (rows_turned classes t) l w r l1 w3
turned_so g classes t count l l1 w w1 w2 w3 r did first same h same_end shut = record {
  fuel = h.fuel;
  depth = h.depth;
  does = λ gas le out start below s sees.
      let x = rowed s.node below count (opened w1.left) (ap next_rows (sym sees.open_so) ∙ first) in
      let behind_rows : Seen = record s { node = x.rest } in
      does_as g out start (SeesReplay g out start below) r (rows_turned classes t gas l s) (turns_over classes t x.nodes x.rest gas l behind_rows) l1 w3
      (λ go. x.leads t.step l s (λ ns rest. turns_over classes t ns rest gas l s go))
      (shut_does g out start below (turns_over classes t x.nodes x.rest gas l behind_rows) l1 w2 w3 did same_end shut r
      (h.does gas le out start below x.nodes behind_rows x.count_so
      (sees_moved g out start (AtNode s.node ∷ below) (AtRows x.nodes ∷ AtNode x.rest ∷ below) w w1 s.events sees same x.open_so)));
}

pub turned_missed : {W : Type 0} (g : sinks.Ghosts W) (classes : List class.Class) (t : Loop) (l : Local) (w w1 : ReplayWorld W) (f : Raised) (q : Result (Unit {0}) Early)
    → next_rows (opened w.left) ≡ None → opened w1.left ≡ opened w.left → w1.out ≡ w.out → f ≡ missed_open t.step (opened w1.left) → q ≡ Err (early.Raised f) → Performs g (rows_turned classes t) l w q l w1
turned_missed g classes t l w w1 f q none stays same raised end =
    miss_so g (rows_turned classes t) t.step l w w1 f q
    (λ gas below s go at. no_rows s.node below (ap next_rows (sym at) ∙ none) t.step l s (λ ns rest. turns_over classes t ns rest gas l s go)) stays same raised end

abbrev then_pass : List class.Class → Loop → Meaning
then_pass classes t gas l s go = rows_turned classes t gas l s (λ l1 s1. pass_meant t.step gas l1 s1 go)

pub rows_so : {W : Type 0} (g : sinks.Ghosts W) (classes : List class.Class) (t : Loop) (l l1 l' : Local) (w w1 w' : ReplayWorld W) (r q : Result (Unit {0}) Early) (u : Unit {0})
    → Performs g (rows_turned classes t) l w r l1 w1 → r ≡ Ok u → Performs g (pass_meant t.step) l1 w1 q l' w' → Performs g (rows_meant classes t) l w q l' w'
rows_so g classes t l l1 l' w w1 w' r q u turned so h = on_ends (on_more (on_begin g (then_pass classes t) l w) turned so) h

pass_adds : (step gas : ℕ) (go : Rest) → Adds go → Adds (λ l s. pass_meant step gas l s go)
pass_adds step gas go adds l s = unless_more adding (fault_at step s.node) far_fault l s (go l s) (adds l s)

pub rows_cut : {W : Type 0} (g : sinks.Ghosts W) (classes : List class.Class) (t : Loop) (l l1 : Local) (w w1 : ReplayWorld W) (r q : Result (Unit {0}) Early) (e : Early)
    → Performs g (rows_turned classes t) l w r l1 w1 → r ≡ Err e → q ≡ Err e → Performs g (rows_meant classes t) l w q l1 w1
rows_cut g classes t l l1 w w1 r q e turned so end =
    on_stops (λ gas l s go. pass_meant t.step gas l s go) (on_begin g (then_pass classes t) l w) (λ gas go adds. pass_adds t.step gas go adds) turned so end

-- a loop by its parts
abbrev rows_by : List class.Class → ℕ → List ℕ → Bool → List part.Part → Meaning
rows_by classes step name kept ps gas l s go =
    on_rows step s.node l s (λ ns rest.
    turns (λ n l1 events. on_turn kept step name l1 (record { events = events; node = n }) (λ l2 s2. all_meant classes ps gas l2 s2 ended)) ns rest l s.events (λ l1 s1. pass_meant step gas l1 s1 go))

pub loop_so : {W : Type 0} {g : sinks.Ghosts W} {l l' : Local} {w w' : ReplayWorld W} {r : Result (Unit {0}) Early} (classes : List class.Class) (step : ℕ) (name : List ℕ) (body : List part.Part) (kind : ℕ) (ps : List part.Part)
    → body ≡ ps → Performs g (rows_by classes step name (is_kept kind) body) l w r l' w' → Performs g (form_meant classes (Turns step name kind (mirror_parts ps))) l w r l' w'
loop_so {l = l} classes step name body kind ps same h = as_meant (λ gas s go. ap (λ xs. rows_by classes step name (is_kept kind) xs gas l s go) (sym same)) h
