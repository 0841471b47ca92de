-- How turns over the items of a list are performed.
use Rattle.std.proofs.Common.{◌≡◌, ◌≢◌, refl, sym, ap, ◌∙◌, subst, ℕ, zero, suc, ◌≤◌, arith, List, [], ◌∷◌, length, take, drop}
use Rattle.std.specs.Prelude.{Bool, None, Some, Result, Ok, Err}
use Rattle.std.specs.Borrow.{MutBor}
use Rattle.rb_trees.specs.Named.{lookup}
use Rattle.rb_trees.specs.declared.declarations.Class as class
use Rattle.rb_trees.specs.declared.outcomes.Raised.{Raised}
use Rattle.rb_trees.specs.declared.remainders.Part as part
use Rattle.rb_trees.specs.declared.values.Fault.{Fault}
use Rattle.rb_trees.specs.declared.values.Value.{Value}
use Rattle.rb_trees.specs.mirror.Forests.{Node, Nodes, NoNodes, MoreNodes}
use Rattle.rb_trees.specs.mirror.Remainders.{Over, mirror_parts}
use Rattle.rb_meaning_bytes.specs.formats.ForestBytes.{count_nodes}
use Rattle.rb_meaning_code.specs.Calls.{unit_due}
use Rattle.rb_meaning_code.specs.Dialogue.{Outcome, Gave, Faulted}
use Rattle.rb_meaning_code.specs.Faults.{fuel_used, raised}
use Rattle.rb_meaning_code.specs.State.{Local, Names, bound, closed, spent}
use Rattle.rb_meaning.specs.State.{Event}
use Rattle.rb_meaning.specs.ConstantLists.{items_of}
use Rattle.rb_meaning_split.specs.Replay.{Seen, Replayed, Rest, after_unit, behind, behind_end, ended, fault_at, list_turns, missed, on_items, on_rows, on_unit, stopped}
use Rattle.rb_base.specs.Devices.{Device}
use Rattle.rb_base.specs.declared.sinks.Sink as sinks
use Rattle.rb_engine.specs.Locals.{local}
use Rattle.rb_engine.specs.declared.state.State.{State}
use Rattle.rb_wire_forest.specs.CursorSteps.{Moves, next_rows, next_turn}
use Rattle.rb_wire_forest.specs.CursorSteps as steps
use Rattle.rb_wire_forest.specs.Opens.{Open, AtNode, AtRows}
use Rattle.rb_wire_forest.specs.Opened.{opened}
use Rattle.rb_client.specs.Events.{Adds}
use Rattle.rb_client.specs.Lists.{GivesItems, PerformsItems, Spends, item_meant, items_over, lack_meant, list_meant, list_turned}
use Rattle.rb_client.specs.Missed.{missed_open}
use Rattle.rb_client.specs.Walks.{Does, Encloses, Ends, Meaning, Performs, SeesRows, SeesSomeRows, all_meant, form_meant}
use Rattle.rb_client.specs.Worlds.{SeesReplay}
use Rattle.rb_client.specs.declared.early.Early.{Early}
use Rattle.rb_client.specs.declared.early.Early.TheVariants as early
use Rattle.rb_client.specs.declared.lists.ListLoop.{ListLoop}
use Rattle.rb_client.specs.declared.replay_world.ReplayWorld.{ReplayWorld}
use Rattle.rb_client.proofs.Adding.{ended_adds, list_turns_more, on_unit_more}
use Rattle.rb_client.proofs.Answering.{sees_moved}
use Rattle.rb_client.proofs.Enclosed.{behind_does, gave_behind, has_turn, miss_so, shut_does}
use Rattle.rb_client.proofs.Events.{adding, no_more}
use Rattle.rb_client.proofs.Missed.{missed_at, no_rows, rowed, turned_to}
use Rattle.rb_client.proofs.Parted.{On, all_adds, as_meant, by_result, does_as, stops_early}

-- ---- items that have nodes, and those that have none

-- what goes on the same from each local state does so behind a unit of fuel, and behind a block
unit_same : (at : ℕ) (u : Result (Unit {0}) Fault) (l : Local) (events : List Event) (go go1 : Local → Replayed) → ((l1 : Local) → go l1 ≡ go1 l1) → on_unit at u l events go ≡ on_unit at u l events go1
unit_same at (Ok u) l events go go1 e = e (spent l)
unit_same at (Err f) l events go go1 e = refl

end_same : (count : ℕ) (rest : Node) (o : Outcome (Unit {0})) (events : List Event) (go go1 : Rest) → ((l : Local) (s : Seen) → go l s ≡ go1 l s) → behind_end count rest o events go ≡ behind_end count rest o events go1
end_same count rest (Gave u l) events go go1 e = e (closed count l) (record { events = events; node = rest })
end_same count rest (Faulted r l) events go go1 e = refl

-- the meaning of a turn on a node, to its end
abbrev item_ran : List class.Class → ListLoop → Value → ℕ → Local → List Event → Node → Replayed
item_ran classes t v gas l events n = item_meant classes t v gas l (record { events = events; node = n }) ended

cut_items : (classes : List class.Class) (t : ListLoop) (gas : ℕ) (rest : Node) (vs : List Value) (ns : Nodes) (l : Local) (s : Seen) (go : Rest)
    → items_over classes t vs ns rest gas l s go ≡ items_over classes t (take (count_nodes ns) vs) ns rest gas l s (λ l1 s1. lack_meant t (drop (count_nodes ns) vs) gas l1 s1 go)
cut_items classes t gas rest [] NoNodes l s go = refl
cut_items classes t gas rest (v ∷ vs) NoNodes l s go = refl
cut_items classes t gas rest [] (MoreNodes n ns) l s go = refl
cut_items classes t gas rest (v ∷ vs) (MoreNodes n ns) l s go =
    unit_same t.at (unit_due l.fuel) l s.events _ _ (λ l1.
    let r = item_ran classes t v gas l1 s.events n in
    end_same (length l1.names) rest r.outcome r.events _ _ (λ l2 s2. cut_items classes t gas rest vs ns l2 s2 go))

short_front : {A : Type 0} (n : ℕ) (xs : List A) → length (take n xs) ≤ n
short_front zero xs = omega arith
short_front (suc n) [] = omega arith
short_front (suc n) (x ∷ xs) = let h = short_front n xs in omega arith

lack_adds : (t : ListLoop) (vs : List Value) (gas : ℕ) (go : Rest) → Adds go → Adds (λ l s. lack_meant t vs gas l s go)
lack_adds t [] gas go adds l s = adds l s
lack_adds t (v ∷ vs) gas go adds l s =
    on_unit_more adding t.at (unit_due l.fuel) l s.events (λ l1. stopped (missed (fault_at t.step s.node)) l1 s) (λ l1. no_more s.events)

items_add : (classes : List class.Class) (t : ListLoop) (vs : List Value) (ns : Nodes) (rest : Node) (gas : ℕ) (go : Rest) → Adds go → Adds (λ l s. items_over classes t vs ns rest gas l s go)
items_add classes t vs ns rest gas go adds l s =
    list_turns_more adding t.step t.at (λ v n l1 events. item_ran classes t v gas l1 events n) vs ns rest l s.events go
    (λ v n l1 es. all_adds classes t.body.now gas ended (ended_adds adding) (bound t.name.now v l1) (record { events = es; node = n })) adds

-- ---- the turns

-- some turns were performed, and those over these items follow
pub record ItemsOn {W : Type 0} (g : sinks.Ghosts W) (classes : List class.Class) (t : ListLoop) (whole left : List Value) (l0 : Local) (w0 : ReplayWorld W) (l : Local) (w : ReplayWorld W) : Type 0 where
  pub fuel : l.fuel ≤ l0.fuel
  pub depth : l.depth ≡ l0.depth
  pub leads : (gas : ℕ) → l0.fuel ≤ gas → (out : MutBor W) (start : Device (List ℕ)) (below : List Open) (ns : Nodes) (s : Seen) → length whole ≤ count_nodes ns → SeesRows g out start below ns w0 s
      → (ns1 : Nodes) × (events : List Event) × (length left ≤ count_nodes ns1) × SeesRows g out start below ns1 w (record { events = events; node = s.node })
      × ((go : Rest) → items_over classes t whole ns s.node gas l0 s go ≡ items_over classes t left ns1 s.node gas l (record { events = events; node = s.node }) go)

pub items_begin : {W : Type 0} (g : sinks.Ghosts W) (classes : List class.Class) (t : ListLoop) (vs : List Value) (l : Local) (w : ReplayWorld W) → ItemsOn g classes t vs vs l w l w
items_begin g classes t vs l w = record { fuel = omega arith; depth = refl; leads = λ gas le out start below ns s long sees. (ns, s.events, long, sees, λ go. refl) }

pub items_end : {W : Type 0} {g : sinks.Ghosts W} {classes : List class.Class} {t : ListLoop} {whole left : List Value} {l0 l : Local} {w0 w : ReplayWorld W} → left ≡ [] → ItemsOn g classes t whole left l0 w0 l w
    → PerformsItems g classes t whole l0 w0 (Ok tt) l w
items_end {classes = classes} {t = t} {l = l} none on = record {
  fuel = on.fuel;
  depth = on.depth;
  does = λ gas le out start below ns s long sees.
      let x = on.leads gas le out start below ns s long sees in
      let s1 : Seen = record { events = x.1; node = s.node } in
      (s1, (x.0, x.3), λ go. x.4 go ∙ ap (λ vs. items_over classes t vs x.0 s.node gas l s1 go) none);
}

-- no unit of fuel is left for an item
no_unit : (classes : List class.Class) (t : ListLoop) (v : Value) (vs : List Value) (ns : Nodes) (rest : Node) (gas : ℕ) (l : Local) (s : Seen) (go : Rest) (f : Fault) → unit_due l.fuel ≡ Err f
    → items_over classes t (v ∷ vs) ns rest gas l s go ≡ stopped (raised f t.at) l s
no_unit classes t v vs NoNodes rest gas l s go f e = ap (λ u. on_unit t.at u l s.events (λ l1. stopped (missed (fault_at t.step rest)) l1 s)) e
no_unit classes t v vs (MoreNodes n ns) rest gas l s go f e =
    ap (λ u. on_unit t.at u l s.events (λ l1. behind (length l1.names) rest (item_ran classes t v gas l1 s.events n) (λ l2 s2. items_over classes t vs ns rest gas l2 s2 go))) e

with_unit : (classes : List class.Class) (t : ListLoop) (v : Value) (vs : List Value) (n : Node) (ns : Nodes) (rest : Node) (gas : ℕ) (l : Local) (s : Seen) (go : Rest) → unit_due l.fuel ≡ Ok tt
    → items_over classes t (v ∷ vs) (MoreNodes n ns) rest gas l s go ≡ behind (length l.names) rest (item_ran classes t v gas (spent l) s.events n) (λ l2 s2. items_over classes t vs ns rest gas l2 s2 go)
with_unit classes t v vs n ns rest gas l s go e =
    ap (λ u. on_unit t.at u l s.events (λ l1. behind (length l1.names) rest (item_ran classes t v gas l1 s.events n) (λ l2 s2. items_over classes t vs ns rest gas l2 s2 go))) e

pub items_unspent : {W : Type 0} {g : sinks.Ghosts W} {classes : List class.Class} {t : ListLoop} {whole : List Value} (v : Value) (vs : List Value) {l0 l : Local} {w0 w : ReplayWorld W} {r : Raised} {q : Result (Unit {0}) Early} → ItemsOn g classes t whole (v ∷ vs) l0 w0 l w
    → unit_due l.fuel ≡ Err fuel_used → r ≡ raised fuel_used t.at → q ≡ Err (early.Raised r) → PerformsItems g classes t whole l0 w0 q l w
items_unspent {W = W} {g = g} {classes = classes} {t = t} {whole = whole} v vs {l0 = l0} {l = l} {w0 = w0} {w = w} {r = r} on none is end = record {
  fuel = on.fuel;
  depth = on.depth;
  does = λ gas le out start below ns s long sees.
      let x = on.leads gas le out start below ns s long sees in
      let s1 : Seen = record { events = x.1; node = s.node } in
      subst (λ z. Does g out start (SeesSomeRows g out start below) (items_over classes t whole ns s.node gas l0 s) z l w) (sym end)
      (s1, (x.0, x.3), λ go. x.4 go ∙ no_unit classes t v vs x.0 s.node gas l s1 go fuel_used none ∙ ap (λ z. stopped z l s1) (sym is));
}

-- a unit that was spent was there
pub spent_due : (at : ℕ) (before after : State) {u : Unit {0}} (given : Result (Unit {0}) Early) → Spends at before given after → given ≡ Ok u → unit_due before.fuel ≡ Ok tt
spent_due at before after given spends is = (subst (λ x. Spends at before x after) is spends).0

pub spent_less : (at : ℕ) (names : Names) (before after : State) {u : Unit {0}} (given : Result (Unit {0}) Early) → Spends at before given after → given ≡ Ok u → local names after ≡ spent (local names before)
spent_less at names before after given spends is = ap (local names) (subst (λ x. Spends at before x after) is spends).1

-- the unit of fuel for an item was wanting
pub items_stop : {W : Type 0} {g : sinks.Ghosts W} {classes : List class.Class} {t : ListLoop} {whole : List Value} (v : Value) (vs : List Value) {l0 : Local} {names : Names} {before after : State} {w0 w : ReplayWorld W} (given : Result (Unit {0}) Early) {e : Early} {q : Result (Unit {0}) Early}
    → ItemsOn g classes t whole (v ∷ vs) l0 w0 (local names before) w → Spends t.at before given after → given ≡ Err e → q ≡ Err e → PerformsItems g classes t whole l0 w0 q (local names after) w
items_stop {W = W} {g = g} {classes = classes} {t = t} {whole = whole} v vs {l0 = l0} {names = names} {before = before} {after = after} {w0 = w0} {w = w} given {e = e} {q = q} on spends is end =
    by e (subst (λ x. Spends t.at before x after) is spends) end
  where
    by : (x : Early) → Spends t.at before (Err x) after → q ≡ Err x → PerformsItems g classes t whole l0 w0 q (local names after) w
    by (early.Raised r) (none, raises, same) end = subst (λ s. PerformsItems g classes t whole l0 w0 q (local names s) w) (sym same) (items_unspent v vs on none raises end)
    by early.WriteFault h end = absurd h
    by early.Memory (none, same) end = subst (λ s. PerformsItems g classes t whole l0 w0 q (local names s) w) (sym same) (record {
      fuel = on.fuel;
      depth = on.depth;
      does = λ gas le out start below ns s long sees. subst (λ z. Does g out start (SeesSomeRows g out start below) (items_over classes t whole ns s.node gas l0 s) z (local names before) w) (sym end) tt;
    })

-- a turn was performed on the first node that was left
record Turned {W : Type 0} (g : sinks.Ghosts W) (classes : List class.Class) (t : ListLoop) (whole : List Value) (v : Value) (vs : List Value) (l0 l l2 : Local) (w : ReplayWorld W) (r : Result (Unit {0}) Early) (gas : ℕ) (out : MutBor W) (start : Device (List ℕ)) (below : List Open)
    (ns : Nodes) (s : Seen) : Type 0 where
  events : List Event
  node : Node
  nodes : Nodes
  long : length vs ≤ count_nodes nodes
  goes : (go : Rest) → items_over classes t whole ns s.node gas l0 s go ≡ behind (length l.names) s.node (item_ran classes t v gas (spent l) events node) (λ l3 s3. items_over classes t vs nodes s.node gas l3 s3 go)
  ends : Ends g out start (AtRows nodes ∷ AtNode s.node ∷ below) (length l.names) (item_ran classes t v gas (spent l) events node) r l2 w

module _ {W : Type 0} {g : sinks.Ghosts W} {classes : List class.Class} {t : ListLoop} {whole : List Value} (v : Value) (vs : List Value) {l0 l l1 l2 : Local} {w0 w w1 w2 : ReplayWorld W} {r : Result (Unit {0}) Early} (did : Bool)
    (on : ItemsOn g classes t whole (v ∷ vs) l0 w0 l w) (due : unit_due l.fuel ≡ Ok tt) (less : l1 ≡ spent l) (same : w1.out ≡ w.out) (opens : Moves next_turn (opened w.left) did (opened w1.left)) (ran : Encloses g (item_meant classes t v) l1 w1 r l2 w2) where
  h : Encloses g (item_meant classes t v) (spent l) w1 r l2 w2
  h = subst (λ x. Encloses g (item_meant classes t v) x w1 r l2 w2) less ran

  module _ (gas : ℕ) (le : l0.fuel ≤ gas) (out : MutBor W) (start : Device (List ℕ)) (below : List Open) (ns : Nodes) (s : Seen) (long : length whole ≤ count_nodes ns) (sees : SeesRows g out start below ns w0 s) where
    turned : Turned g classes t whole v vs l0 l l2 w2 r gas out start below ns s
    turned =
        let a = on.fuel in
        let x = on.leads gas le out start below ns s long sees in
        let c = x.2 in
        let y = has_turn x.0 (omega (arith, c)) in
        let one : count_nodes x.0 ≡ suc (count_nodes y.nodes) = ap count_nodes y.is in
        let at : opened w.left ≡ AtRows (MoreNodes y.node y.nodes) ∷ AtNode s.node ∷ below = x.3.open_so ∙ ap (λ z. AtRows z ∷ AtNode s.node ∷ below) y.is in
        let inner : Seen = record { events = x.1; node = y.node } in
        let s1 : Seen = record { events = x.1; node = s.node } in
        record {
          events = x.1;
          node = y.node;
          nodes = y.nodes;
          long = omega (arith, c, one);
          goes = λ go.
              x.4 go ∙ ap (λ z. items_over classes t (v ∷ vs) z s.node gas l s1 go) y.is
              ∙ with_unit classes t v vs y.node y.nodes s.node gas l s1 go due;
          ends = h.ends gas (omega (arith, a, le)) out start (AtRows y.nodes) (AtNode s.node ∷ below) inner
              (sees_moved g out start (AtRows x.0 ∷ AtNode s.node ∷ below) (AtNode y.node ∷ AtRows y.nodes ∷ AtNode s.node ∷ below) w w1 x.1 x.3 same
              (turned_to y.node y.nodes (AtNode s.node ∷ below) (opened w.left) (opened w1.left) did at opens));
        }

  pub items_next : {u : Unit {0}} → r ≡ Ok u → ItemsOn g classes t whole vs l0 w0 l2 w2
  items_next {u = u} done =
      let a = on.fuel in
      let b = h.fuel in
      record {
        fuel = omega (arith, a, b);
        depth = h.depth ∙ on.depth;
        leads = λ gas le out start below ns s long sees.
            let x = turned gas le out start below ns s long sees in
            let ran1 = item_ran classes t v gas (spent l) x.events x.node in
            let e = subst (λ q. Ends g out start (AtRows x.nodes ∷ AtNode s.node ∷ below) (length l.names) ran1 q l2 w2) done x.ends in (
              x.nodes,
              ran1.events,
              x.long,
              e.1,
              λ go. x.goes go ∙ gave_behind (length l.names) s.node ran1.outcome ran1.events (λ l3 s3. items_over classes t vs x.nodes s.node gas l3 s3 go) l2 e.0,
            );
      }

  pub items_cut : {e : Early} {q : Result (Unit {0}) Early} → r ≡ Err e → q ≡ Err e → PerformsItems g classes t whole l0 w0 q l2 w2
  items_cut {e = e} {q = q} done end =
      let a = on.fuel in
      let b = h.fuel in
      record {
        fuel = omega (arith, a, b);
        depth = h.depth ∙ on.depth;
        does = λ gas le out start below ns s long sees.
            let x = turned gas le out start below ns s long sees in
            let ran1 = item_ran classes t v gas (spent l) x.events x.node in
            subst (λ q. Does g out start (SeesSomeRows g out start below) (items_over classes t whole ns s.node gas l0 s) q l2 w2) (sym end)
            (does_as g out start (SeesSomeRows g out start below) (Err e) (items_over classes t whole ns s.node gas l0 s) (λ go. behind (length l.names) s.node ran1 (λ l3 s3. items_over classes t vs x.nodes s.node gas l3 s3 go)) l2 w2 x.goes
            (stops_early g out start (SeesSomeRows g out start below) e (λ go. behind (length l.names) s.node ran1 go) (λ go l3 s3. items_over classes t vs x.nodes s.node gas l3 s3 go) l2 w2
            (λ go adds. items_add classes t vs x.nodes s.node gas go adds)
            (behind_does g out start (SeesSomeRows g out start below) (AtRows x.nodes ∷ AtNode s.node ∷ below) (length l.names) s.node ran1 l2 w2 (λ z. (x.nodes, z)) (Err e)
            (subst (λ q. Ends g out start (AtRows x.nodes ∷ AtNode s.node ∷ below) (length l.names) ran1 q l2 w2) done x.ends))));
      }

-- an item is bound to its name
pub item_so : {W : Type 0} (g : sinks.Ghosts W) (classes : List class.Class) (t : ListLoop) (v : Value) (l l1 l' : Local) (w w' : ReplayWorld W) (r : Result (Unit {0}) Early) → l1 ≡ bound t.name.now v l
    → Performs g (all_meant classes t.body.now) l1 w r l' w' → Performs g (item_meant classes t v) l w r l' w'
item_so g classes t v l l1 l' w w' r is ran =
    let h = subst (λ x. Performs g (all_meant classes t.body.now) x w r l' w') is ran in
    record { fuel = h.fuel; depth = h.depth; does = λ gas le out start below s sees. h.does gas le out start below s sees }

-- ---- the list

module _ {W : Type 0} (g : sinks.Ghosts W) (classes : List class.Class) (t : ListLoop) (vs given lacking : List Value) (count : ℕ) (l l1 : Local) (w w1 w2 w3 : ReplayWorld W) (r : Result (Unit {0}) Early) (did : Bool)
    (first : next_rows (opened w.left) ≡ Some (count, opened w1.left)) (same : w1.out ≡ w.out) (front : given ≡ take count vs) (back : lacking ≡ drop count vs)
    (h : PerformsItems g classes t given l w1 r l1 w2) (same_end : w3.out ≡ w2.out) (shut : Moves steps.closed (opened w2.left) did (opened w3.left)) where
  -- the items that have nodes had their turns, and the others are left
  record Fronted (gas : ℕ) (out : MutBor W) (start : Device (List ℕ)) (below : List Open) (s : Seen) : Type 0 where
    nodes : Nodes
    rest : Node
    does : Does g out start (SeesReplay g out start below) (items_over classes t given nodes rest gas l s) r l1 w3
    leads : (go : Rest) → list_turned classes t vs gas l s go ≡ items_over classes t given nodes rest gas l s (λ l2 s2. lack_meant t lacking gas l2 s2 go)

  fronted : (gas : ℕ) → l.fuel ≤ gas → (out : MutBor W) (start : Device (List ℕ)) (below : List Open) (s : Seen) → SeesReplay g out start below w s → Fronted gas out start below s
  fronted gas le out start below s sees =
      let x = rowed s.node below count (opened w1.left) (ap next_rows (sym sees.open_so) ∙ first) in
      let c = x.count_so in
      let short : length given ≤ count = subst (λ z. length z ≤ count) (sym front) (short_front count vs) in
      let behind_rows : Seen = record s { node = x.rest } in
      record {
        nodes = x.nodes;
        rest = x.rest;
        does = shut_does g out start below (items_over classes t given x.nodes x.rest gas l behind_rows) l1 w2 w3 did same_end shut r
            (h.does gas le out start below x.nodes behind_rows (omega (arith, c, short))
            (sees_moved g out start (AtNode s.node ∷ below) (AtRows x.nodes ∷ AtNode x.rest ∷ below) w w1 s.events sees same x.open_so));
        leads = λ go.
            x.leads t.step l s (λ ns rest. items_over classes t vs ns rest gas l s go)
            ∙ cut_items classes t gas x.rest vs x.nodes l s go
            ∙ ap (λ n. items_over classes t (take n vs) x.nodes x.rest gas l s (λ l2 s2. lack_meant t (drop n vs) gas l2 s2 go)) x.count_so
            ∙ ap (λ z. items_over classes t z x.nodes x.rest gas l s (λ l2 s2. lack_meant t (drop count vs) gas l2 s2 go)) (sym front)
            ∙ ap (λ z. items_over classes t given x.nodes x.rest gas l s (λ l2 s2. lack_meant t z gas l2 s2 go)) (sym back);
      }

  pub list_on : {u : Unit {0}} → r ≡ Ok u → On g (list_turned classes t vs) (lack_meant t lacking) l w l1 w3
  list_on {u = u} done = record {
    fuel = h.fuel;
    depth = h.depth;
    leads = λ gas le out start below s sees.
        let x = fronted gas le out start below s sees in
        let d = subst (λ q. Does g out start (SeesReplay g out start below) (items_over classes t given x.nodes x.rest gas l s) q l1 w3) done x.does in
        (d.0, d.1, λ go. x.leads go ∙ d.2 (λ l2 s2. lack_meant t lacking gas l2 s2 go));
  }

  pub list_cut : {e : Early} {q : Result (Unit {0}) Early} → r ≡ Err e → q ≡ Err e → Performs g (list_turned classes t vs) l w q l1 w3
  list_cut {e = e} done end = by_result end (record {
    fuel = h.fuel;
    depth = h.depth;
    does = λ gas le out start below s sees.
        let x = fronted gas le out start below s sees in
        does_as g out start (SeesReplay g out start below) (Err e) (list_turned classes t vs gas l s) (λ go. items_over classes t given x.nodes x.rest gas l s (λ l2 s2. lack_meant t lacking gas l2 s2 go)) l1 w3 x.leads
        (stops_early g out start (SeesReplay g out start below) e (items_over classes t given x.nodes x.rest gas l s) (λ go l2 s2. lack_meant t lacking gas l2 s2 go) l1 w3
        (λ go adds. lack_adds t lacking gas go adds)
        (subst (λ q. Does g out start (SeesReplay g out start below) (items_over classes t given x.nodes x.rest gas l s) q l1 w3) done x.does));
  })

-- no rows stand first
pub list_missed : {W : Type 0} (g : sinks.Ghosts W) (classes : List class.Class) (t : ListLoop) (vs : List Value) (l : Local) (w w1 : ReplayWorld W) (f : Raised) (q : Result (Unit {0}) Early)
    → next_rows (opened w.left) ≡ None → opened w1.left ≡ opened w.left → w1.out ≡ w.out → f ≡ missed_open t.step (opened w1.left) → q ≡ Err (early.Raised f) → Performs g (list_turned classes t vs) l w q l w1
list_missed g classes t vs l w w1 f q none stays same raised end =
    miss_so g (list_turned classes t vs) t.step l w w1 f q
    (λ gas below s go at. no_rows s.node below (ap next_rows (sym at) ∙ none) t.step l s (λ ns rest. items_over classes t vs ns rest gas l s go)) stays same raised end

-- ---- items that no node is left for

pub lack_none : {W : Type 0} (g : sinks.Ghosts W) (t : ListLoop) (vs : List Value) (l : Local) (w : ReplayWorld W) → vs ≡ [] → Performs g (lack_meant t vs) l w (Ok tt) l w
lack_none g t vs l w none = record { fuel = omega arith; depth = refl; does = λ gas le out start below s sees. (s, sees, λ go. ap (λ z. lack_meant t z gas l s go) none) }

lack_goes : (t : ListLoop) (vs : List Value) (gas : ℕ) (l : Local) (s : Seen) (go : Rest) → vs ≢ [] → lack_meant t vs gas l s go ≡ after_unit t.at l s.events (λ l1. stopped (missed (fault_at t.step s.node)) l1 s)
lack_goes t [] gas l s go some = absurd (some refl)
lack_goes t (v ∷ vs) gas l s go some = refl

pub lack_unspent : {W : Type 0} (g : sinks.Ghosts W) (t : ListLoop) (vs : List Value) (l : Local) (w : ReplayWorld W) (r : Raised) (q : Result (Unit {0}) Early) → vs ≢ [] → unit_due l.fuel ≡ Err fuel_used → r ≡ raised fuel_used t.at → q ≡ Err (early.Raised r)
    → Performs g (lack_meant t vs) l w q l w
lack_unspent g t vs l w r q some none is end = by_result end (record {
  fuel = omega arith;
  depth = refl;
  does = λ gas le out start below s sees. (
    s,
    sees,
    λ go.
        lack_goes t vs gas l s go some ∙ ap (λ u. on_unit t.at u l s.events (λ l1. stopped (missed (fault_at t.step s.node)) l1 s)) none
        ∙ ap (λ z. stopped z l s) (sym is),
  );
})

pub lack_missed : {W : Type 0} (g : sinks.Ghosts W) (t : ListLoop) (vs : List Value) (l l1 : Local) (w : ReplayWorld W) (r : Raised) (q : Result (Unit {0}) Early) → vs ≢ [] → unit_due l.fuel ≡ Ok tt → l1 ≡ spent l → r ≡ missed_open t.step (opened w.left)
    → q ≡ Err (early.Raised r) → Performs g (lack_meant t vs) l w q l1 w
lack_missed g t vs l l1 w r q some due less is end = subst (λ x. Performs g (lack_meant t vs) l w q x w) (sym less) (by_result end (record {
  fuel = omega arith;
  depth = refl;
  does = λ gas le out start below s sees. (
    s,
    sees,
    λ go.
        lack_goes t vs gas l s go some ∙ ap (λ u. on_unit t.at u l s.events (λ l2. stopped (missed (fault_at t.step s.node)) l2 s)) due
        ∙ ap (λ z. stopped z (spent l) s) (sym (missed_at t.step s.node below) ∙ ap (missed_open t.step) (sym sees.open_so) ∙ sym is),
  );
}))

-- ---- the list that has a name

pub list_so : {W : Type 0} (g : sinks.Ghosts W) (classes : List class.Class) (t : ListLoop) (vs : List Value) (l l' : Local) (w w' : ReplayWorld W) (r : Result (Unit {0}) Early) → items_of (lookup l.names t.list.now) ≡ Ok vs
    → Performs g (list_turned classes t vs) l w r l' w' → Performs g (list_meant classes t) l w r l' w'
list_so g classes t vs l l' w w' r is h = as_meant (λ gas s go. ap (λ o. on_items t.at o l s.events (λ xs. list_turned classes t xs gas l s go)) is) h

-- no list has the name
pub list_refused : {W : Type 0} (g : sinks.Ghosts W) (classes : List class.Class) (t : ListLoop) (meant : Result (List Value) Fault) (given : Result (List Value) Early) (l : Local) (w : ReplayWorld W) (e : Early) (q : Result (Unit {0}) Early)
    → meant ≡ items_of (lookup l.names t.list.now) → GivesItems t.at meant given → given ≡ Err e → q ≡ Err e → Performs g (list_meant classes t) l w q l w
list_refused {W = W} g classes t meant given l w e q same gives is end = by_result end (by e (subst (GivesItems t.at meant) is gives))
  where
    by : (e : Early) → GivesItems t.at meant (Err e) → Performs g (list_meant classes t) l w (Err e) l w
    by (early.Raised r) (f, refused, raises) = record {
      fuel = omega arith;
      depth = refl;
      does = λ gas le out start below s sees. (
        s,
        sees,
        λ go. ap (λ o. on_items t.at o l s.events (λ xs. list_turned classes t xs gas l s go)) (sym same ∙ refused) ∙ ap (λ z. stopped z l s) (sym raises),
      );
    }
    by early.WriteFault h = absurd h
    by early.Memory h = record { fuel = omega arith; depth = refl; does = λ gas le out start below s sees. tt }

-- a loop over a list by its parts
abbrev list_by : List class.Class → (step at : ℕ) → (name list : List ℕ) → List part.Part → Meaning
list_by classes step at name list ps gas l s go =
    on_items at (items_of (lookup l.names list)) l s.events (λ vs.
    on_rows step s.node l s (λ ns rest.
    list_turns step at (λ v n l1 events. all_meant classes ps gas (bound name v l1) (record { events = events; node = n }) ended) vs ns rest l s.events go))

pub over_so : {W : Type 0} {g : sinks.Ghosts W} {l l' : Local} {w w' : ReplayWorld W} {r : Result (Unit {0}) Early} (classes : List class.Class) (step at : ℕ) (name list : List ℕ) (input : ℕ) (body ps : List part.Part) → body ≡ ps
    → Performs g (list_by classes step at name list body) l w r l' w' → Performs g (form_meant classes (Over step at name list input (mirror_parts ps))) l w r l' w'
over_so {l = l} classes step at name list input body ps same h = as_meant (λ gas s go. ap (λ xs. list_by classes step at name list xs gas l s go) (sym same)) h
