-- A carried loop of a batch: where it stands, in the script and in the replay.
use Rattle.std.proofs.Common.{◌≡◌, ◌≤◌, ◌⊎◌, inl, inr, refl, sym, ap, ◌∙◌, subst, ℕ, zero, suc, ◌-◌, List, [], ◌∷◌, length, true, false, Option, Some, None, Ok, All, slice_get}
use Rattle.std.proofs.lemmas.List.Elements.{All-head, All-tail}
use Rattle.rb_trees.specs.Named.{lookup}
use Rattle.rb_trees.specs.Outcome.{known, ◌>>=◌}
use Rattle.rb_trees.specs.declared.values.Value.{Value}
use Rattle.rb_trees.specs.declared.values.Value.TheOpen.{Value-F}
use Rattle.rb_trees.specs.declared.values.Value.TheVariants as value
use Rattle.rb_trees.specs.declared.values.Value.TheViews.{out-Value}
use Rattle.rb_trees.specs.declared.outcomes.Raised.{Raised}
use Rattle.rb_trees.specs.mirror.Code.{Expr, Lit, Name, Stmts}
use Rattle.rb_trees.specs.mirror.Forests.{Node, Nodes, NoNodes, MoreNodes}
use Rattle.rb_trees.specs.mirror.Remainders as part
use Rattle.rb_trees.specs.mirror.Scripts.{Steps}
use Rattle.rb_meaning_types.specs.Kinds as kind
use Rattle.rb_meaning_types.specs.Kinds.{Kind, is_primitive}
use Rattle.rb_meaning_types.specs.Violations.{UnknownName}
use Rattle.rb_meaning_types.specs.Expressions.{type_of}
use Rattle.rb_meaning_types.specs.Scopes as typed
use Rattle.rb_meaning_types.specs.Fits.{AreItems, classes_of, Fits}
use Rattle.rb_meaning_code.specs.Faults as faults
use Rattle.rb_meaning_code.specs.Faults.{fuel_used, raised, raised_remotely, raises}
use Rattle.rb_meaning_code.specs.State.{Local, bound, closed, spent}
use Rattle.rb_meaning_code.specs.Dialogue.{ListTurn, Outcome, Gave, Faulted, Ask, Run, handle, on, next, end, told}
use Rattle.rb_meaning_code.specs.Calls.{unit_due}
use Rattle.rb_meaning_code.specs.Expressions.{evaluates}
use Rattle.rb_meaning_code.specs.Statements.{closes, block, list_turn, turns_over, turns, performs_all}
use Rattle.rb_meaning_code.specs.Remote.{Server, Reply, Got, and_then, replies}
use Rattle.rb_meaning_code.specs.ScriptRun as run
use Rattle.rb_meaning_code.specs.ScriptRun.{Vars, PlacedFault, Ran, Turned, AllDone, InTurn, NoUnit, items_in, on_reply, turned_on, turn_over, after_turns, walked, run_steps}
use Rattle.rb_meaning_flow.specs.Facts.{has_primitive_items}
use Rattle.rb_meaning_flow.specs.Scopes.{Scope, role_of}
use Rattle.rb_meaning_flow.specs.Portable.{is_constant_list}
use Rattle.rb_meaning_flow.specs.Programs.{is_carried_at}
use Rattle.rb_meaning.specs.ConstantLists.{name_of, items_of}
use Rattle.rb_meaning.specs.State.{Event, Outside}
use Rattle.rb_meaning.specs.Unsplit as unsplit
use Rattle.rb_meaning.specs.Unsplit.{stands_remote, with_side, with_answer}
use Rattle.rb_meaning.specs.RemoteAnswers.{answer_of}
use Rattle.rb_meaning_split.specs.Refs.{Refs, list_number}
use Rattle.rb_meaning_split.specs.Parts as parts
use Rattle.rb_meaning_split.specs.Replay as replay
use Rattle.rb_meaning_split.specs.Replay.{Seen, Replayed, fault_at}
use Rattle.rb_flow.proofs.Members.{first_contained}
use Rattle.rb_law_types.specs.Ends.{LocalFits}
use Rattle.rb_law_types.specs.Formed.{IsFormedExpr}
use Rattle.rb_law_types.proofs.Checks.{bind_ok, known_ok}
use Rattle.rb_law_types.proofs.SitesWithin.{Within}
use Rattle.rb_law_unsplit.proofs.Agreed.{list_read}
use Rattle.rb_law_unsplit.proofs.Carried.{Carry, carry_begins, carry_read}
use Rattle.rb_law_script.proofs.Linked.{input_linked}
use Rattle.rb_law_script.proofs.Sent.{agree_look}
use Rattle.rb_law_local.specs.Shown.{is_far, at_client}
use Rattle.rb_law_local.specs.Local.{IsLocalAt}
use Rattle.rb_law_local.specs.Meets.{placed}
use Rattle.rb_law_local.proofs.Meeting.{handle_seq}
use Rattle.rb_law_local.proofs.Names.{Extends, seen_bound, seen_value, fronts_same}
use Rattle.rb_law_local.proofs.Closing.{extends_with, holds_framed}
use Rattle.rb_law_local.proofs.Portable.{local_of}
use Rattle.rb_law_client.proofs.Overs.{Onto, over_take}
use Rattle.rb_law_client.proofs.Written.{InScript}
use Rattle.rb_law_client.proofs.Scene.{Scene, d, is, x, h, code, Holds, At, at_moved}
use Rattle.rb_law_client.proofs.Goes.{Onward, side_near, Goes, at_node}
use Rattle.rb_law_client.proofs.Worth.{primitive_near}
use Rattle.rb_law_client.proofs.Carried.{stops_here}
use Rattle.rb_law_client.proofs.Blocks.{behind_done, behind_fell, BlockGoes, at_up, close_fits, close_client, close_done}
use Rattle.rb_law_client.proofs.Turning.{rows_front, one_less}

-- a value that is a list
pub record HasItems (P : Value → Type 0) (w : Value-F Value) : Type 0 where
  pub items : List Value
  pub is : w ≡ Value-F.List items
  pub fit : All P items

pub items_value : (P : Value → Type 0) (w : Value-F Value) → AreItems P w → HasItems P w
items_value P (Value-F.List items) h = record { items = items; is = refl; fit = h.1 }
items_value P Value-F.Unit h = absurd h
items_value P _ h = absurd h

module _ (c : Scene) (refs : Refs) (m : ℕ) (vs : Scope) (ws : typed.Scope) (vars : Vars) (n m' position : ℕ) (up : m ≤ m') (carried : is_carried_at c.p position ≡ true) (here : IsLocalAt c.p position) (go : Onward) (ke : replay.Rest)
    (name : List ℕ) (item : Kind) (primitive : is_primitive item ≡ true) (a : Stmts) (sa : Steps) (pa : part.Parts) (last : typed.Scope) (onward : Extends (typed.with_variable ws name item true) last) where
  abbrev inner : typed.Scope
  inner = typed.with_variable ws name item true

  abbrev into : Extends ws inner
  into = extends_with ws name item true

  abbrev client : Local → Local
  client l = at_client (x c) ws l

  abbrev item_ran : Value → Server → Ran
  item_ran v s = run_steps c.ground sa ((m, v) ∷ vars) s run.ended

  abbrev run_turn : Value → Server → Ran
  run_turn v s = turn_over n position false (λ s3. item_ran v s3) v s

  abbrev body : Local → Seen → Replayed
  body l s = replay.replay_all c.p.classes c.gas pa l s replay.ended

  abbrev turn : Value → Node → Local → List Event → Replayed
  turn v nd l events = body (bound name v l) (record { events = events; node = nd })

  abbrev effect : Local → Run (Unit {0})
  effect l = performs_all (code c) c.gas a l

  -- how a turn over an item goes on, from each local state there
  pub record ItemGoes : Type 0 where
    pub goes : (v : Value) (l : Local) (o : Outside) → Fits (is c) [] item v → At c refs m vs ws vars l → Holds c o
        → BlockGoes c inner last (handle (h c) (effect (bound name v l)) o) (item_ran v o.server) (body (at_client (x c) inner (bound name v l)) (at_node c o (item_ran v o.server)))
    pub over : (v : Value) (l : Local) (o : Outside) → Onto (InScript refs) l (local_of (handle (h c) (effect (bound name v l)) o).0)

  -- ---- how turns end

  pub record TurnsDone (l : Local) (s : Outside) (t : Turned) (rep : Node → replay.Rest → Replayed) : Type 0 where
    pub at : At c refs m vs ws vars l
    pub holds : Holds c s
    pub why : t.why ≡ AllDone
    pub server : t.server ≡ s.server
    pub replayed : (rest : Node) (k : replay.Rest) → rep rest k ≡ k (client l) (record { events = s.events; node = rest })

  -- there was no remote unit for the next one
  pub record TurnsLack (r : Raised) (l : Local) (s : Outside) (t : Turned) (rep : Node → replay.Rest → Replayed) : Type 0 where
    pub at : At c refs m vs ws vars l
    pub fault : r ≡ raised_remotely fuel_used position
    pub why : t.why ≡ NoUnit
    pub server : t.server ≡ s.server
    pub replayed : (rest : Node) (k : replay.Rest) → rep rest k ≡ record { outcome = Faulted (replay.missed (fault_at n rest)) (client l); events = s.events }

  -- a fault in one of them, or no unit of the own side for the next one
  pub record TurnsFell (r : Raised) (l : Local) (s : Outside) (t : Turned) (rep : Node → replay.Rest → Replayed) : Type 0 where
    pub fits : LocalFits (x c) ws l
    pub replayed : (rest : Node) (k : replay.Rest) → rep rest k ≡ record { outcome = Faulted (with_side c.p r) (client l); events = s.events }
    pub far : (with_side c.p r).remote ≡ true → (t.why ≡ InTurn (placed r)) × (t.server ≡ s.server)

  abbrev pub TurnsGo : Outcome (Unit {0}) × Outside → Turned → (Node → replay.Rest → Replayed) → Type 0
  TurnsGo (Gave u l, s) t rep = TurnsDone l s t rep
  TurnsGo (Faulted r l, s) t rep = TurnsLack r l s t rep ⊎ TurnsFell r l s t rep

  abbrev replays : List Value → Nodes → Local → List Event → Node → replay.Rest → Replayed
  replays items nodes l events rest k = replay.list_turns n position turn items nodes rest l events k

  -- the turns behind one that went to its end
  lifted : (w : Outcome (Unit {0}) × Outside) (t t' : Turned) (rep rep' : Node → replay.Rest → Replayed) → t'.why ≡ t.why → t'.server ≡ t.server → ((rest : Node) (k : replay.Rest) → rep' rest k ≡ rep rest k) → TurnsGo w t rep → TurnsGo w t' rep'
  lifted (Gave u l, s) t t' rep rep' e e1 same q = record { at = q.at; holds = q.holds; why = e ∙ q.why; server = e1 ∙ q.server; replayed = λ rest k. same rest k ∙ q.replayed rest k }
  lifted (Faulted r l, s) t t' rep rep' e e1 same (inl q) = inl (record { at = q.at; fault = q.fault; why = e ∙ q.why; server = e1 ∙ q.server; replayed = λ rest k. same rest k ∙ q.replayed rest k })
  lifted (Faulted r l, s) t t' rep rep' e e1 same (inr q) = inr (record { fits = q.fits; replayed = λ rest k. same rest k ∙ q.replayed rest k; far = λ is_far. let both = q.far is_far in (e ∙ both.0, e1 ∙ both.1) })

  abbrev over_items : List Value → Local → Run (Unit {0})
  over_items items l = turns_over (list_turn position) name items effect l

  -- what follows a turn where it stands
  abbrev later_turns : List Value → Unit {0} → Local → Run (Unit {0})
  later_turns items u l3 = over_items items l3

  -- a turn that has its units, and those behind it
  abbrev block_turn : Value → List Value → Local → Run (Unit {0})
  block_turn v items l = next (block (λ l2. effect (bound name v l2)) l) (later_turns items)

  abbrev More : List Value → Type 0
  More items = (l : Local) (o : Outside) → At c refs m vs ws vars l → Holds c o → TurnsGo (handle (h c) (over_items items l) o) (run.turns run_turn items o.server) (λ rest k. replays items (run.turns run_turn items o.server).nodes (client l) o.events rest k)

  -- the replay of turns, the first of which has its unit of the own side
  abbrev stepped : Value → List Value → Nodes → Local → List Event → Node → replay.Rest → Replayed
  stepped v items NoNodes l events rest k = record { outcome = Faulted (replay.missed (fault_at n rest)) l; events = events }
  stepped v items (MoreNodes nd ns) l events rest k = replay.behind (length l.names) rest (turn v nd l events) (λ l2 s2. replays items ns l2 s2.events rest k)

  with_own : (v : Value) (items : List Value) (nodes : Nodes) (l : Local) (events : List Event) (rest : Node) (k : replay.Rest) (left : ℕ) → l.fuel ≡ suc left → replays (v ∷ items) nodes l events rest k ≡ stepped v items nodes (spent l) events rest k
  with_own v items NoNodes l events rest k left e = ap (λ q. replay.on_unit position (unit_due q) l events (λ l1. record { outcome = Faulted (replay.missed (fault_at n rest)) l1; events = events })) e
  with_own v items (MoreNodes nd ns) l events rest k left e =
      ap (λ q. replay.on_unit position (unit_due q) l events (λ l1. replay.behind (length l1.names) rest (turn v nd l1 events) (λ l2 s2. replays items ns l2 s2.events rest k))) e

  without_own : (v : Value) (items : List Value) (nodes : Nodes) (l : Local) (events : List Event) (rest : Node) (k : replay.Rest) → l.fuel ≡ zero → replays (v ∷ items) nodes l events rest k ≡ record { outcome = Faulted (raised fuel_used position) l; events = events }
  without_own v items NoNodes l events rest k e = ap (λ q. replay.on_unit position (unit_due q) l events (λ l1. record { outcome = Faulted (replay.missed (fault_at n rest)) l1; events = events })) e
  without_own v items (MoreNodes nd ns) l events rest k e =
      ap (λ q. replay.on_unit position (unit_due q) l events (λ l1. replay.behind (length l1.names) rest (turn v nd l1 events) (λ l2 s2. replays items ns l2 s2.events rest k))) e

  -- a unit of fuel less changes nothing of what is known there
  at_spent : (l : Local) → At c refs m vs ws vars l → At c refs m vs ws vars (spent l)
  at_spent l at = record {
    walked = at.walked;
    joined = at.joined;
    linked = at.linked;
    fits = record { holds = record { names_fit = at.fits.holds.names_fit; heap_fits = at.fits.holds.heap_fits }; count = at.fits.count };
    held = at.held;
    known = at.known;
  }

  -- a turn that has both of its units
  module _ (v : Value) (items : List Value) (more : More items) (l : Local) (at : At c refs m vs ws vars l) (o : Outside) where
    abbrev rr : Ran
    rr = item_ran v o.server

    abbrev repb : Replayed
    repb = body (at_client (x c) inner (bound name v l)) (at_node c o rr)

    abbrev turned : Turned
    turned = turned_on rr.node rr.fault rr.server (run.turns run_turn items)

    first_turn : turn v rr.node (client l) o.events ≡ repb
    first_turn = ap (λ q. body q (at_node c o rr)) (sym (seen_bound (x c) ws l name item true v at.fits.count (primitive_near (d c) item primitive)))

    ended_turn : (w : Outcome (Unit {0}) × Outside) → BlockGoes c inner last w rr repb → Onto (InScript refs) l (local_of w.0)
        → TurnsGo (handle (h c) (on (later_turns items) (handle (h c) (closes (length l.names) w.0) w.1).0) (handle (h c) (closes (length l.names) w.0) w.1).1) turned (λ rest k. stepped v items turned.nodes (client l) o.events rest k)
    ended_turn (Gave u l1, s1) t over =
        let l2 = closed (length l.names) l1 in
        let done = close_done c ws inner into l at.fits last onward l1 t.fits in
        let at2 = at_moved c refs m vs ws vars l l2 at (close_fits c ws inner into l at.fits l1 done.0) (over_take (InScript refs) l.names l1.names over) in
        let same : turned ≡ run.before_turns rr.node (run.turns run_turn items s1.server) = ap (λ q. turned_on rr.node q rr.server (run.turns run_turn items)) t.fault ∙ ap (λ q. run.before_turns rr.node (run.turns run_turn items q)) t.server in
        subst (λ q. TurnsGo (handle (h c) (over_items items l2) s1) q (λ rest k. stepped v items q.nodes (client l) o.events rest k)) (sym same)
        (lifted (handle (h c) (over_items items l2) s1) (run.turns run_turn items s1.server) (run.before_turns rr.node (run.turns run_turn items s1.server)) (λ rest k. replays items (run.turns run_turn items s1.server).nodes (client l2) s1.events rest k)
        (λ rest k. stepped v items (MoreNodes rr.node (run.turns run_turn items s1.server).nodes) (client l) o.events rest k) refl refl
        (λ rest k.
        ap (λ q. replay.behind (length (client l).names) rest q (λ l1 s1'. replays items (run.turns run_turn items s1.server).nodes l1 s1'.events rest k)) first_turn
        ∙ behind_done (length (client l).names) rest repb (λ l1 s1'. replays items (run.turns run_turn items s1.server).nodes l1 s1'.events rest k) (at_client (x c) last l1) s1.events t.outcome t.events
        ∙ ap (λ q. replays items (run.turns run_turn items s1.server).nodes q s1.events rest k) done.1)
        (more l2 s1 at2 t.holds))
    ended_turn (Faulted q l1, s1) t over = inr (record {
      fits = close_fits c ws inner into l at.fits l1 t.state;
      replayed = λ rest k. by rr.fault rest k;
      far = λ is_far.
          let both = t.far is_far in
          let same = ap (λ z. turned_on rr.node z rr.server (run.turns run_turn items)) both.0 in
          (ap (λ z. z.why) same, ap (λ z. z.server) same ∙ both.1);
    })
      where
        went : (rest : Node) (k : replay.Rest) → replay.behind (length (client l).names) rest (turn v rr.node (client l) o.events) k ≡ record { outcome = Faulted (with_side c.p q) (client (closed (length l.names) l1)); events = s1.events }
        went rest k =
            ap (λ z. replay.behind (length (client l).names) rest z k) first_turn
            ∙ behind_fell (length (client l).names) rest repb k (with_side c.p q) t.local s1.events t.ends t.events
            ∙ ap (λ z. record { outcome = Faulted (with_side c.p q) z; events = s1.events }) (close_client c ws inner into l at.fits l1 t.local t.state t.fronts)

        by : (z : Option PlacedFault) (rest : Node) (k : replay.Rest)
            → stepped v items (turned_on rr.node z rr.server (run.turns run_turn items)).nodes (client l) o.events rest k ≡ record { outcome = Faulted (with_side c.p q) (client (closed (length l.names) l1)); events = s1.events }
        by None rest k = went rest (λ l2 s2. replays items (run.turns run_turn items rr.server).nodes l2 s2.events rest k)
        by (Some z) rest k = went rest (λ l2 s2. replays items NoNodes l2 s2.events rest k)

  -- all turns, over a list of items
  module _ (each : ItemGoes) where
    abbrev begun : Value → List Value → Local → Outside → Reply Value → Outcome (Unit {0}) × Outside
    begun v items l o reply = handle (h c) (next (told l (with_answer o (answer_of reply)).0) (λ u l1. block_turn v items l1)) (with_answer o (answer_of reply)).1

    abbrev made : Value → List Value → Server → Turned
    made v items s1 = turned_on (run_turn v s1).node (run_turn v s1).fault (run_turn v s1).server (run.turns run_turn items)

    -- a turn that has its unit of the own side
    far_turn : (v : Value) (items : List Value) → More items → Fits (is c) [] item v → (l : Local) (o : Outside) → At c refs m vs ws vars l → Holds c o
        → TurnsGo (begun v items l o (and_then (replies position (unit_due o.server.fuel) o.server) (λ u s1. Got value.Unit (record s1 { fuel = s1.fuel - 1 })))) (run.turns run_turn (v ∷ items) o.server)
        (λ rest k. stepped v items (run.turns run_turn (v ∷ items) o.server).nodes (client l) o.events rest k)
    far_turn v items more fits l o at holds = by o.server.fuel refl
      where
        with_one : (o1 : Outside) → o1.events ≡ o.events → Holds c o1 → TurnsGo (handle (h c) (block_turn v items l) o1) (made v items o1.server) (λ rest k. stepped v items (made v items o1.server).nodes (client l) o.events rest k)
        with_one o1 e holds1 =
            let w = handle (h c) (effect (bound name v l)) o1 in
            subst (λ q. TurnsGo q (made v items o1.server) (λ rest k. stepped v items (made v items o1.server).nodes (client l) o.events rest k))
            (sym (handle_seq (h c) (block (λ l2. effect (bound name v l2)) l) (on (later_turns items)) o1 ∙ ap (λ q. handle (h c) (on (later_turns items) q.0) q.1) (handle_seq (h c) (effect (bound name v l)) (closes (length l.names)) o1)))
            (subst (λ ev. TurnsGo (handle (h c) (on (later_turns items) (handle (h c) (closes (length l.names) w.0) w.1).0) (handle (h c) (closes (length l.names) w.0) w.1).1) (made v items o1.server)
            (λ rest k. stepped v items (made v items o1.server).nodes (client l) ev rest k)) e
            (ended_turn v items more l at o1 w (each.goes v l o1 fits at holds1) (each.over v l o1)))

        by : (fuel : ℕ) → o.server.fuel ≡ fuel → TurnsGo (begun v items l o (and_then (replies position (unit_due fuel) o.server) (λ u s1. Got value.Unit (record s1 { fuel = s1.fuel - 1 })))) (run.with_unit fuel o.server (made v items))
            (λ rest k. stepped v items (run.with_unit fuel o.server (made v items)).nodes (client l) o.events rest k)
        by zero e = inl (record { at = at; fault = refl; why = refl; server = refl; replayed = λ rest k. refl })
        by (suc n1) e =
            subst (λ q. TurnsGo (handle (h c) (block_turn v items l) (record o { server = record o.server { fuel = q } })) (made v items (record o.server { fuel = n1 })) (λ rest k. stepped v items (made v items (record o.server { fuel = n1 })).nodes (client l) o.events rest k))
            (sym (one_less o.server.fuel n1 e)) (with_one (record o { server = record o.server { fuel = n1 } }) refl holds)

    -- how a turn begins, by the units of the own side
    abbrev started : ℕ → Value → List Value → Local → Run (Unit {0})
    started fuel v items l = next (next (end l (raises position (unit_due fuel))) (λ u l1. Ask (ListTurn position) (told (spent l1)))) (λ u l1. block_turn v items l1)

    own_turn : (v : Value) (items : List Value) → More items → Fits (is c) [] item v → More (v ∷ items)
    own_turn v items more fits l o at holds = by l.fuel refl
      where
        all : Turned
        all = run.turns run_turn (v ∷ items) o.server

        side : with_side c.p (raised fuel_used position) ≡ raised fuel_used position
        side = side_near c (raised fuel_used position) refl here

        by : (fuel : ℕ) → l.fuel ≡ fuel → TurnsGo (handle (h c) (started fuel v items l) o) all (λ rest k. replays (v ∷ items) all.nodes (client l) o.events rest k)
        by zero e = inr (record {
          fits = at.fits;
          replayed = λ rest k. without_own v items all.nodes (client l) o.events rest k e ∙ ap (λ z. record { outcome = Faulted z (client l); events = o.events }) (sym side);
          far = λ is_far. absurd (cc (sym is_far ∙ ap (λ z. z.remote) side));
        })
        by (suc left) e =
            let now = spent l in
            let q = unsplit.list_turn true position o in
            subst (λ t. TurnsGo (handle (h c) (next (told now (unsplit.list_turn t position o).0) (λ u l1. block_turn v items l1)) (unsplit.list_turn t position o).1) all (λ rest k. replays (v ∷ items) all.nodes (client l) o.events rest k)) (sym carried)
            (lifted (handle (h c) (next (told now q.0) (λ u l1. block_turn v items l1)) q.1) all all (λ rest k. stepped v items all.nodes (client now) o.events rest k) (λ rest k. replays (v ∷ items) all.nodes (client l) o.events rest k) refl refl
            (λ rest k. with_own v items all.nodes (client l) o.events rest k left e) (far_turn v items more fits now o (at_spent l at) holds))

    pub turns_go : (items : List Value) → All (Fits (is c) [] item) items → More items
    turns_go [] fit l o at holds = record { at = at; holds = holds; why = refl; server = refl; replayed = λ rest k. refl }
    turns_go (v ∷ items) fit l o at holds = own_turn v items (turns_go items (All-tail (Fits (is c) [] item) v items fit)) (All-head (Fits (is c) [] item) v items fit) l o at holds

    -- ---- the loop

    module _ (l : Local) (at : At c refs m vs ws vars l) where
      abbrev on_after : Turned → Ran
      on_after t = after_turns n position t.why t.server (λ s2. go vars s2)

      walked_goes : (w : Outcome (Unit {0}) × Outside) (t : Turned) (rep : Node → replay.Rest → Replayed) → TurnsGo w t rep → Goes c refs m' vs ws ws w (walked n position t (λ s2. go vars s2)) (rep (on_after t).node ke) go ke
      walked_goes (Gave u l1, s1) t rep q =
          let k = ap (λ z. after_turns n position z t.server (λ s2. go vars s2)) q.why ∙ ap (go vars) q.server in
          record {
            vars = vars;
            at = at_up c refs m m' vs ws vars l1 up q.at;
            holds = q.holds;
            fault = ap (λ z. z.fault) k;
            server = ap (λ z. z.server) k;
            replayed = ap (λ z. rep z.node ke) k ∙ q.replayed (go vars s1.server).node ke;
          }
      walked_goes (Faulted r l1, s1) t rep (inl q) =
          let k = ap (λ z. after_turns n position z t.server (λ s2. go vars s2)) q.why in
          let stopped = run.stopped n position fuel_used t.server in
          let e = ap (λ z. rep z.node ke) k ∙ q.replayed stopped.node ke ∙ ap (λ z. record { outcome = Faulted (replay.missed z) (client l1); events = s1.events }) (stops_here n position fuel_used) in
          record {
            local = client l1;
            fronts = fronts_same (x c) ws l1;
            state = q.at.fits.holds;
            ends = ap (λ z. z.outcome) e ∙ ap (λ z. Faulted (with_side c.p z) (client l1)) (sym q.fault);
            events = ap (λ z. z.events) e;
            far = λ is_far. (ap (λ z. z.fault) k ∙ ap (λ z. Some (placed z)) (sym q.fault), ap (λ z. z.server) k ∙ q.server);
          }
      walked_goes (Faulted r l1, s1) t rep (inr q) =
          let e = q.replayed (on_after t).node ke in
          record {
            local = client l1;
            fronts = fronts_same (x c) ws l1;
            state = q.fits.holds;
            ends = ap (λ z. z.outcome) e;
            events = ap (λ z. z.events) e;
            far = λ is_far.
                let both = q.far is_far in
                let k = ap (λ z. after_turns n position z t.server (λ s2. go vars s2)) both.0 in
                (ap (λ z. z.fault) k, ap (λ z. z.server) k ∙ both.1);
          }

      abbrev over_ran : ℕ → Server → Ran
      over_ran number s = on_reply n (run.items_of c.ground position number s) (λ items s1. walked n position (run.turns run_turn items s1) (λ s2. go vars s2))

      abbrev loops : Value → Local → Run (Unit {0})
      loops v l1 = turns position name (out-Value v) effect l1

      abbrev replayed_loop : part.Part → Outside → Ran → Replayed
      replayed_loop p o ran = replay.replay c.p.classes c.gas p (client l) (at_node c o ran) ke

      -- over the value of a name that the script, the code and the client have
      module _ (place : ℕ) (list : List ℕ) (number : ℕ) (v : Value) (found : lookup l.names list ≡ Some v) (reads : slice_get c.ground.inputs number ≡ Some v) (shown : lookup (client l).names list ≡ Some v) (t : HasItems (Fits (is c) [] item) (out-Value v)) where
        abbrev loop_part : part.Part
        loop_part = part.Over n position name list number pa

        named_goes : (o : Outside) → Holds c o
            → Goes c refs m' vs ws ws (handle (h c) (on loops (handle (h c) (evaluates (code c) (Name place list) l) o).0) (handle (h c) (evaluates (code c) (Name place list) l) o).1) (over_ran number o.server)
            (replayed_loop loop_part o (over_ran number o.server)) go ke
        named_goes o holds =
            let turned' = run.turns run_turn t.items o.server in
            let ran = walked n position turned' (λ s2. go vars s2) in
            let got : over_ran number o.server ≡ ran =
            ap (λ q. on_reply n (replies position (known faults.kind q >>= λ u. items_in (out-Value u)) o.server) (λ items s1. walked n position (run.turns run_turn items s1) (λ s2. go vars s2))) reads
            ∙ ap (λ q. on_reply n (replies position (items_in q) o.server) (λ items s1. walked n position (run.turns run_turn items s1) (λ s2. go vars s2))) t.is in
            let s = at_node c o ran in
            let follow : List Value → Replayed = λ items. replay.on_rows n ran.node (client l) s (λ ns rest. replays items ns (client l) o.events rest ke) in
            let front : replayed_loop loop_part o ran ≡ replays t.items turned'.nodes (client l) o.events (on_after turned').node ke =
            ap (λ q. replay.on_items position (items_of q) (client l) o.events follow) shown ∙ ap (λ q. replay.on_items position (items_in q) (client l) o.events follow) t.is
            ∙ rows_front n turned'.nodes (on_after turned').node (client l) s (λ ns rest. replays t.items ns (client l) o.events rest ke) in
            subst (λ q. Goes c refs m' vs ws ws (handle (h c) (on loops (handle (h c) (end l (raises place (known faults.kind q))) o).0) (handle (h c) (end l (raises place (known faults.kind q))) o).1) (over_ran number o.server)
            (replayed_loop loop_part o (over_ran number o.server)) go ke) (sym found)
            (subst (λ q. Goes c refs m' vs ws ws (handle (h c) (turns position name q effect l) o) (over_ran number o.server) (replayed_loop loop_part o (over_ran number o.server)) go ke) (sym t.is)
            (subst (λ q. Goes c refs m' vs ws ws (handle (h c) (over_items t.items l) o) q (replayed_loop loop_part o q) go ke) (sym got)
            (subst (λ q. Goes c refs m' vs ws ws (handle (h c) (over_items t.items l) o) ran q go ke) (sym front)
            (walked_goes (handle (h c) (over_items t.items l) o) turned' (λ rest k. replays t.items turned'.nodes (client l) o.events rest k) (turns_go t.items t.fit l o at holds)))))

      pub over_goes : (e : Expr) → is_constant_list vs e ≡ true → type_of (x c) ws e ≡ Ok (kind.ListOf item) → IsFormedExpr e → Within (name_of e) c.inputs → (o : Outside) → Holds c o
          → Goes c refs m' vs ws ws (handle (h c) (on loops (handle (h c) (evaluates (code c) e l) o).0) (handle (h c) (evaluates (code c) e l) o).1) (over_ran (list_number refs e) o.server)
          (replayed_loop (parts.over c.p refs n position name e pa) o (over_ran (list_number refs e) o.server)) go ke
      over_goes (Name place list) is_list typed_here plain used o holds =
          let b = bind_ok (known (UnknownName place) (typed.variable_named ws list)) _ (kind.ListOf item) typed_here in
          let w = b.0 in
          let named : typed.variable_named ws list ≡ Some w = known_ok (UnknownName place) (typed.variable_named ws list) w b.1 in
          let is_kind : w.kind ≡ kind.ListOf item = cc (b.2) in
          let carry : Carry (is c) vs ws l.names = carry_begins (is c) (classes_of l.heap) c.this vs ws l.names at.joined.agree at.fits.holds.names_fit at.fits.count in
          let found = carry_read (is c) vs ws l.names list w carry plain (list_read (role_of vs list) is_list) named in
          let it = input_linked c.ground refs vars l.names list at.linked plain (at.joined.lists list plain is_list (used list (first_contained list []))) in
          let same : it.value ≡ found.0 = one_value it.value found.0 (sym it.holds ∙ found.1) in
          let shown : lookup (client l).names list ≡ Some found.0 = seen_value (x c) ws l.names list w plain (holds_framed (x c) ws l at.fits.holds) named (near w.kind is_kind) ∙ found.1 in
          named_goes place list (list_number refs (Name place list)) found.0 found.1 (it.reads ∙ ap Some same) shown
          (items_value (Fits (is c) [] item) (out-Value found.0) (subst (λ k. Fits (is c) [] k found.0) is_kind found.2)) o holds
        where
          one_value : (u v : Value) → Some u ≡ Some v → u ≡ v
          one_value u v e = cc (e)

          near : (k : Kind) → k ≡ kind.ListOf item → is_far (d c) k ≡ false
          near k e = ap (is_far (d c)) e
      over_goes (Lit place v) is_list typed_here plain used o holds = absurd (cc (is_list))
      over_goes _ is_list typed_here plain used o holds = absurd (cc (is_list))

-- the items of a constant list are primitive
pub primitive_items : (c : Scene) (refs : Refs) (m : ℕ) (vs : Scope) (ws : typed.Scope) (vars : Vars) (l : Local) → At c refs m vs ws vars l → (e : Expr) (item : Kind) → is_constant_list vs e ≡ true → type_of (x c) ws e ≡ Ok (kind.ListOf item) → is_primitive item ≡ true
primitive_items c refs m vs ws vars l at (Name place name) item is_list typed_here =
    let b = bind_ok (known (UnknownName place) (typed.variable_named ws name)) _ (kind.ListOf item) typed_here in
    let w = b.0 in
    let is_kind : w.kind ≡ kind.ListOf item = cc (b.2) in
    subst (λ k. has_primitive_items k ≡ true) is_kind ((agree_look (is c) vs ws name w at.joined.agree (known_ok (UnknownName place) (typed.variable_named ws name) w b.1)).list is_list)
primitive_items c refs m vs ws vars l at (Lit place v) item is_list typed_here = absurd (cc (is_list))
primitive_items c refs m vs ws vars l at _ item is_list typed_here = absurd (cc (is_list))
