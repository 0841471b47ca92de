-- A loop over rows of a batch: where it stands, in the script and in the replay.
use Rattle.std.proofs.Common.{◌≡◌, ◌≤◌, ◌⊎◌, inl, inr, refl, sym, ap, ◌∙◌, subst, ℕ, zero, suc, ◌-◌, List, [], ◌∷◌, length, Bool as Truth, true, false, Option, Some, None, arith}
use Rattle.std.specs.List.{All}
use Rattle.std.proofs.lemmas.List.Elements.{All-head, All-tail}
use Rattle.rb_trees.specs.declared.values.Value.{Value}
use Rattle.rb_trees.specs.declared.values.Value.TheOpen.{Value-F}
use Rattle.rb_trees.specs.declared.values.Value.TheVariants as value
use Rattle.rb_trees.specs.declared.values.Value.TheViews.{out-Value}
use Rattle.rb_trees.specs.declared.values.Fault.{Fault}
use Rattle.rb_trees.specs.declared.outcomes.Raised.{Raised}
use Rattle.rb_trees.specs.mirror.Code.{Stmts}
use Rattle.rb_trees.specs.mirror.Forests as forest
use Rattle.rb_trees.specs.mirror.Forests.{Node, Nodes, Holds as Held, NoEntries, MoreEntries, NoNodes, MoreNodes}
use Rattle.rb_trees.specs.mirror.Remainders as part
use Rattle.rb_trees.specs.mirror.Scripts.{Steps}
use Rattle.rb_meaning_types.specs.Kinds as kind
use Rattle.rb_meaning_types.specs.Kinds.{Kind, is_primitive}
use Rattle.rb_meaning_types.specs.Scopes as typed
use Rattle.rb_meaning_types.specs.Fits.{AreRows, Fits}
use Rattle.rb_meaning_bytes.specs.Fits.{is_kept}
use Rattle.rb_meaning_code.specs.Faults.{fuel_used, raised_remotely}
use Rattle.rb_meaning_code.specs.State.{Local, bound, closed}
use Rattle.rb_meaning_code.specs.Dialogue.{Outcome, Gave, Faulted, Run, handle, on, next, told}
use Rattle.rb_meaning_code.specs.Calls.{unit_due}
use Rattle.rb_meaning_code.specs.Statements.{closes, block, row_turn, turns_over, turns, performs_all}
use Rattle.rb_meaning_code.specs.Remote.{Server, Reply, Got, and_then, replies, rows_in}
use Rattle.rb_meaning_code.specs.ScriptRun as run
use Rattle.rb_meaning_code.specs.ScriptRun.{Vars, PlacedFault, Ran, Turned, Why, AllDone, InTurn, NoUnit, in_front, kept, on_reply, with_entry, with_kept, rows_of, turned_on, turn_over, after_turns, walked, run_steps}
use Rattle.rb_meaning_flow.specs.Scopes.{Scope}
use Rattle.rb_meaning.specs.State.{Event, Outside}
use Rattle.rb_meaning.specs.Unsplit.{with_side, with_answer}
use Rattle.rb_meaning.specs.RemoteAnswers.{answer_of}
use Rattle.rb_meaning_split.specs.Refs.{Refs}
use Rattle.rb_meaning_split.specs.Replay as replay
use Rattle.rb_meaning_split.specs.Replay.{Seen, Replayed, fault_at, taken}
use Rattle.rb_law_types.specs.Ends.{LocalFits}
use Rattle.rb_law_script.proofs.Alike.{kept_got}
use Rattle.rb_law_script.proofs.Joined.{fits_primitive}
use Rattle.rb_law_script.proofs.Later.{AllLater, none_here}
use Rattle.rb_law_local.specs.Shown.{is_far, at_client}
use Rattle.rb_law_local.specs.Meets.{far_side, placed}
use Rattle.rb_law_local.proofs.Meeting.{handle_seq}
use Rattle.rb_law_local.proofs.Names.{Extends, seen_bound, fronts_same}
use Rattle.rb_law_local.proofs.Closing.{extends_with}
use Rattle.rb_law_local.proofs.Portable.{local_of}
use Rattle.rb_law_division.specs.Faults.{EachFault, IsRemote}
use Rattle.rb_law_client.proofs.Overs.{Onto, over_take}
use Rattle.rb_law_client.proofs.Written.{InScript}
use Rattle.rb_law_client.proofs.Scene.{Scene, d, is, x, h, code, Holds, At, at_moved}
use Rattle.rb_law_client.proofs.Goes.{Onward, Went, Goes, at_node}
use Rattle.rb_law_client.proofs.Worth.{Worth, seen_far, primitive_near}
use Rattle.rb_law_client.proofs.Carried.{stop, stops_here, unless_stops, value_front, stop_went}
use Rattle.rb_law_client.proofs.Blocks.{behind_done, behind_fell, BlockGoes, at_up, close_fits, close_client, close_done}

-- the rows that a node begins with
pub rows_front : (n : ℕ) (nodes : Nodes) (node : Node) (l : Local) (s : Seen) (go : Nodes → Node → Replayed) → replay.on_rows n (in_front (forest.Rows nodes) node) l s go ≡ go nodes node
rows_front n nodes (Held es fault) l s go = refl

rows_stop : (n at : ℕ) (fault : Fault) (l : Local) (s : Seen) (go : Nodes → Node → Replayed)
    → replay.on_rows n (Held NoEntries (Some (stop n at fault))) l s go ≡ replay.stopped (raised_remotely fault at) l s
rows_stop n at fault l s go = ap (λ q. replay.stopped (replay.missed q) l s) (stops_here n at fault)

-- a value of rows
pub record HasRows (P : Value → Type 0) (w : Value-F Value) : Type 0 where
  pub rows : List Value
  pub is : w ≡ Value-F.Rows rows
  pub fit : All P rows

pub rows_value : (P : Value → Type 0) (w : Value-F Value) → AreRows P w → HasRows P w
rows_value P (Value-F.Rows rows) h = record { rows = rows; is = refl; fit = h }
rows_value P Value-F.Unit h = absurd h
rows_value P _ h = absurd h

pub one_less : (n m : ℕ) → n ≡ suc m → n - 1 ≡ m
one_less n m e = omega (arith, e)

module _ (c : Scene) (refs : Refs) (m : ℕ) (vs : Scope) (ws : typed.Scope) (vars : Vars) (n m' position : ℕ) (up : m ≤ m') (go : Onward) (ke : replay.Rest)
    (name : List ℕ) (item : Kind) (keep : Truth) (row_kind : ℕ) (kept_same : is_kept row_kind ≡ keep) (keeps_primitive : keep ≡ is_primitive item) (a : Stmts) (sa : Steps) (pa : part.Parts) (last : typed.Scope) (onward : Extends (typed.with_variable ws name item true) last)
    (row_far : is_primitive item ≡ false → is_far (d c) item ≡ true) where
  abbrev inner : typed.Scope
  inner = typed.with_variable ws name item true

  abbrev into : Extends ws inner
  into = extends_with ws name item true

  abbrev client : Local → Local
  client l = at_client (x c) ws l

  abbrev row_ran : Value → Server → Ran
  row_ran row s = run_steps c.ground sa ((m, row) ∷ vars) s run.ended

  abbrev run_turn : Value → Server → Ran
  run_turn row s = turn_over n position keep (λ s3. row_ran row s3) row s

  abbrev body : Local → Seen → Replayed
  body l s = replay.replay_all c.p.classes c.gas pa l s replay.ended

  abbrev turn : Node → Local → List Event → Replayed
  turn nd l events = replay.on_turn (is_kept row_kind) n name l (record { events = events; node = nd }) (λ l2 s2. body l2 s2)

  abbrev effect : Local → Run (Unit {0})
  effect l = performs_all (code c) c.gas a l

  -- how a turn over a row goes on, from each local state there
  pub record TurnGoes : Type 0 where
    pub goes : (row : Value) (l : Local) (o : Outside) → Fits (is c) [] item row → At c refs m vs ws vars l → Holds c o
        → BlockGoes c inner last (handle (h c) (effect (bound name row l)) o) (row_ran row o.server) (body (at_client (x c) inner (bound name row l)) (at_node c o (row_ran row o.server)))
    pub over : (row : Value) (l : Local) (o : Outside) → Onto (InScript refs) l (local_of (handle (h c) (effect (bound name row l)) o).0)

  -- ---- how turns end

  pub record TurnsDone (l : Local) (s : Outside) (t : Turned) (rep : Node → replay.Rest → Replayed) : Type 0 where
    pub at : At c refs m vs ws vars l
    pub holds : Holds c s
    pub why : t.why ≡ AllDone
    pub server : t.server ≡ s.server
    pub replayed : (rest : Node) (k : replay.Rest) → rep rest k ≡ k (client l) (record { events = s.events; node = rest })

  -- there was no unit for the next one
  pub record TurnsLack (r : Raised) (l : Local) (s : Outside) (t : Turned) (rep : Node → replay.Rest → Replayed) : Type 0 where
    pub at : At c refs m vs ws vars l
    pub fault : r ≡ raised_remotely fuel_used position
    pub why : t.why ≡ NoUnit
    pub server : t.server ≡ s.server
    pub replayed : (rest : Node) (k : replay.Rest) → rep rest k ≡ k (client l) (record { events = s.events; node = rest })

  -- a fault in one of them
  pub record TurnsFell (r : Raised) (l : Local) (s : Outside) (t : Turned) (rep : Node → replay.Rest → Replayed) : Type 0 where
    pub fits : LocalFits (x c) ws l
    pub replayed : (rest : Node) (k : replay.Rest) → rep rest k ≡ record { outcome = Faulted (with_side c.p r) (client l); events = s.events }
    pub far : (with_side c.p r).remote ≡ true → (t.why ≡ InTurn (placed r)) × (t.server ≡ s.server)

  abbrev pub TurnsGo : Outcome (Unit {0}) × Outside → Turned → (Node → replay.Rest → Replayed) → Type 0
  TurnsGo (Gave u l, s) t rep = TurnsDone l s t rep
  TurnsGo (Faulted r l, s) t rep = TurnsLack r l s t rep ⊎ TurnsFell r l s t rep

  abbrev replays : Nodes → Local → List Event → Node → replay.Rest → Replayed
  replays nodes l events rest k = replay.turns turn nodes rest l events k

  -- a row that is kept, or not, and the turn's parts
  turn_got : (row : Value) (s : Server) → Fits (is c) [] item row → run_turn row s ≡ with_kept keep row (row_ran row s)
  turn_got row s fits = ap (λ q. on_reply n q (λ v s1. with_kept keep v (row_ran row s1))) (kept_got keep position row s (λ is_kept'. fits_primitive (is c) item row (sym keeps_primitive ∙ is_kept') fits))

  turn_replayed : (row : Value) (l : Local) (at : At c refs m vs ws vars l) (events : List Event) (r : Ran) → turn (with_kept keep row r).node (client l) events ≡ body (at_client (x c) inner (bound name row l)) (record { events = events; node = r.node })
  turn_replayed row l at events r =
      ap (λ q. replay.on_turn q n name (client l) (record { events = events; node = (with_kept keep row r).node }) (λ l2 s2. body l2 s2)) kept_same
      ∙ by keep keeps_primitive
    where
      by : (t : Truth) → t ≡ is_primitive item → replay.on_turn t n name (client l) (record { events = events; node = (with_kept t row r).node }) (λ l2 s2. body l2 s2) ≡ body (at_client (x c) inner (bound name row l)) (record { events = events; node = r.node })
      by true e =
          value_front n row r.node (client l) (record { events = events; node = (with_entry (forest.Value row) r).node }) (λ v s1. body (bound name v (client l)) s1)
          ∙ ap (λ q. body q (record { events = events; node = r.node })) (sym (seen_bound (x c) ws l name item true row at.fits.count (primitive_near (d c) item (sym e))))
      by false e = ap (λ q. body q (record { events = events; node = r.node })) (sym (seen_far (x c) ws l name item true row at.fits.count (row_far (sym e))))

  kept_fault : (row : Value) (r : Ran) → (with_kept keep row r).fault ≡ r.fault
  kept_fault row r = by keep
    where
      by : (t : Truth) → (with_kept t row r).fault ≡ r.fault
      by true = refl
      by false = refl

  kept_server : (row : Value) (r : Ran) → (with_kept keep row r).server ≡ r.server
  kept_server row r = by keep
    where
      by : (t : Truth) → (with_kept t row r).server ≡ r.server
      by true = refl
      by false = refl

  -- the turns behind one that went to its end
  lifted : (w : Outcome (Unit {0}) × Outside) (t t' : Turned) (rep rep' : Node → replay.Rest → Replayed) → t'.why ≡ t.why → t'.server ≡ t.server → ((rest : Node) (k : replay.Rest) → rep' rest k ≡ rep rest k) → TurnsGo w t rep → TurnsGo w t' rep'
  lifted (Gave u l, s) t t' rep rep' e e1 same q = record { at = q.at; holds = q.holds; why = e ∙ q.why; server = e1 ∙ q.server; replayed = λ rest k. same rest k ∙ q.replayed rest k }
  lifted (Faulted r l, s) t t' rep rep' e e1 same (inl q) = inl (record { at = q.at; fault = q.fault; why = e ∙ q.why; server = e1 ∙ q.server; replayed = λ rest k. same rest k ∙ q.replayed rest k })
  lifted (Faulted r l, s) t t' rep rep' e e1 same (inr q) = inr (record { fits = q.fits; replayed = λ rest k. same rest k ∙ q.replayed rest k; far = λ is_far. let both = q.far is_far in (e ∙ both.0, e1 ∙ both.1) })

  abbrev over_rows : List Value → Local → Run (Unit {0})
  over_rows rows l = turns_over (row_turn position) name rows effect l

  -- what follows a turn where it stands
  abbrev later_turns : List Value → Unit {0} → Local → Run (Unit {0})
  later_turns rows u l3 = over_rows rows l3

  abbrev More : List Value → Type 0
  More rows = (l : Local) (o : Outside) → At c refs m vs ws vars l → Holds c o → TurnsGo (handle (h c) (over_rows rows l) o) (run.turns run_turn rows o.server) (λ rest k. replays (run.turns run_turn rows o.server).nodes (client l) o.events rest k)

  -- a turn that has its unit, and those behind it
  module _ (row : Value) (rows : List Value) (more : More rows) (l : Local) (at : At c refs m vs ws vars l) (o : Outside) where
    abbrev rr : Ran
    rr = row_ran row o.server

    abbrev repb : Replayed
    repb = body (at_client (x c) inner (bound name row l)) (at_node c o rr)

    abbrev first_node : Node
    first_node = (with_kept keep row rr).node

    abbrev turned : Turned
    turned = turned_on first_node rr.fault rr.server (run.turns run_turn rows)

    first_turn : turn first_node (client l) o.events ≡ repb
    first_turn = turn_replayed row l at o.events rr

    ended_turn : (w : Outcome (Unit {0}) × Outside) → BlockGoes c inner last w rr repb → Onto (InScript refs) l (local_of w.0)
        → TurnsGo (handle (h c) (on (later_turns rows) (handle (h c) (closes (length l.names) w.0) w.1).0) (handle (h c) (closes (length l.names) w.0) w.1).1) turned (λ rest k. replays turned.nodes (client l) o.events rest k)
    ended_turn (Gave u l1, s1) t over =
        let l2 = closed (length l.names) l1 in
        let done = close_done c ws inner into l at.fits last onward l1 t.fits in
        let at2 = at_moved c refs m vs ws vars l l2 at (close_fits c ws inner into l at.fits l1 done.0) (over_take (InScript refs) l.names l1.names over) in
        let same : turned ≡ run.before_turns first_node (run.turns run_turn rows s1.server) = ap (λ q. turned_on first_node q rr.server (run.turns run_turn rows)) t.fault ∙ ap (λ q. run.before_turns first_node (run.turns run_turn rows q)) t.server in
        subst (λ q. TurnsGo (handle (h c) (over_rows rows l2) s1) q (λ rest k. replays q.nodes (client l) o.events rest k)) (sym same)
        (lifted (handle (h c) (over_rows rows l2) s1) (run.turns run_turn rows s1.server) (run.before_turns first_node (run.turns run_turn rows s1.server)) (λ rest k. replays (run.turns run_turn rows s1.server).nodes (client l2) s1.events rest k)
        (λ rest k. replays (MoreNodes first_node (run.turns run_turn rows s1.server).nodes) (client l) o.events rest k) refl refl
        (λ rest k.
        ap (λ q. replay.behind (length (client l).names) rest q (λ l1 s1'. replay.turns turn (run.turns run_turn rows s1.server).nodes rest l1 s1'.events k)) first_turn
        ∙ behind_done (length (client l).names) rest repb (λ l1 s1'. replay.turns turn (run.turns run_turn rows s1.server).nodes rest l1 s1'.events k) (at_client (x c) last l1) s1.events t.outcome t.events
        ∙ ap (λ q. replays (run.turns run_turn rows s1.server).nodes q s1.events rest k) done.1)
        (more l2 s1 at2 t.holds))
    ended_turn (Faulted q l1, s1) t over = inr (record {
      fits = close_fits c ws inner into l at.fits l1 t.state;
      replayed = λ rest k. by rr.fault rest k;
      far = λ is_far.
          let both = t.far is_far in
          let same = ap (λ z. turned_on first_node z rr.server (run.turns run_turn rows)) both.0 in
          (ap (λ z. z.why) same, ap (λ z. z.server) same ∙ both.1);
    })
      where
        went : (rest : Node) (k : replay.Rest) → replay.behind (length (client l).names) rest (turn first_node (client l) o.events) k ≡ record { outcome = Faulted (with_side c.p q) (client (closed (length l.names) l1)); events = s1.events }
        went rest k =
            ap (λ z. replay.behind (length (client l).names) rest z k) first_turn
            ∙ behind_fell (length (client l).names) rest repb k (with_side c.p q) t.local s1.events t.ends t.events
            ∙ ap (λ z. record { outcome = Faulted (with_side c.p q) z; events = s1.events }) (close_client c ws inner into l at.fits l1 t.local t.state t.fronts)

        by : (z : Option PlacedFault) (rest : Node) (k : replay.Rest) → replays (turned_on first_node z rr.server (run.turns run_turn rows)).nodes (client l) o.events rest k ≡ record { outcome = Faulted (with_side c.p q) (client (closed (length l.names) l1)); events = s1.events }
        by None rest k = went rest (λ l2 s2. replay.turns turn (run.turns run_turn rows rr.server).nodes rest l2 s2.events k)
        by (Some z) rest k = went rest (λ l2 s2. replay.turns turn NoNodes rest l2 s2.events k)

  -- all turns, over a list of rows
  module _ (each : TurnGoes) where
    abbrev begun : Value → List Value → Local → Outside → Reply Value → Outcome (Unit {0}) × Outside
    begun row rows l o reply = handle (h c) (next (told l (with_answer o (answer_of reply)).0) (λ u l1. next (block (λ l2. effect (bound name row l2)) l1) (later_turns rows))) (with_answer o (answer_of reply)).1

    abbrev made : Value → List Value → Server → Turned
    made row rows s1 = turned_on (run_turn row s1).node (run_turn row s1).fault (run_turn row s1).server (run.turns run_turn rows)

    unit_turn : (row : Value) (rows : List Value) → More rows → Fits (is c) [] item row → (l : Local) (o : Outside) → At c refs m vs ws vars l → Holds c o
        → TurnsGo (handle (h c) (over_rows (row ∷ rows) l) o) (run.turns run_turn (row ∷ rows) o.server) (λ rest k. replays (run.turns run_turn (row ∷ rows) o.server).nodes (client l) o.events rest k)
    unit_turn row rows more fits l o at holds = by o.server.fuel refl
      where
        with_one : (o1 : Outside) → o1.events ≡ o.events → Holds c o1
            → TurnsGo (handle (h c) (next (block (λ l2. effect (bound name row l2)) l) (later_turns rows)) o1) (made row rows o1.server) (λ rest k. replays (made row rows o1.server).nodes (client l) o.events rest k)
        with_one o1 e holds1 =
            let w = handle (h c) (effect (bound name row l)) o1 in
            let r = row_ran row o1.server in
            subst (λ q. TurnsGo (handle (h c) (next (block (λ l2. effect (bound name row l2)) l) (later_turns rows)) o1) (turned_on q.node q.fault q.server (run.turns run_turn rows)) (λ rest k. replays (turned_on q.node q.fault q.server (run.turns run_turn rows)).nodes (client l) o.events rest k))
            (sym (turn_got row o1.server fits))
            (subst (λ q. TurnsGo (handle (h c) (next (block (λ l2. effect (bound name row l2)) l) (later_turns rows)) o1) (turned_on (with_kept keep row r).node q (with_kept keep row r).server (run.turns run_turn rows)) (λ rest k. replays (turned_on (with_kept keep row r).node q (with_kept keep row r).server (run.turns run_turn rows)).nodes (client l) o.events rest k))
            (sym (kept_fault row r))
            (subst (λ q. TurnsGo (handle (h c) (next (block (λ l2. effect (bound name row l2)) l) (later_turns rows)) o1) (turned_on (with_kept keep row r).node r.fault q (run.turns run_turn rows)) (λ rest k. replays (turned_on (with_kept keep row r).node r.fault q (run.turns run_turn rows)).nodes (client l) o.events rest k))
            (sym (kept_server row r))
            (subst (λ q. TurnsGo q (turned_on (with_kept keep row r).node r.fault r.server (run.turns run_turn rows)) (λ rest k. replays (turned_on (with_kept keep row r).node r.fault r.server (run.turns run_turn rows)).nodes (client l) o.events rest k))
            (sym (handle_seq (h c) (block (λ l2. effect (bound name row l2)) l) (on (later_turns rows)) o1 ∙ ap (λ q. handle (h c) (on (later_turns rows) q.0) q.1) (handle_seq (h c) (effect (bound name row l)) (closes (length l.names)) o1)))
            (subst (λ ev. TurnsGo (handle (h c) (on (later_turns rows) (handle (h c) (closes (length l.names) w.0) w.1).0) (handle (h c) (closes (length l.names) w.0) w.1).1) (turned_on (with_kept keep row r).node r.fault r.server (run.turns run_turn rows))
            (λ rest k. replays (turned_on (with_kept keep row r).node r.fault r.server (run.turns run_turn rows)).nodes (client l) ev rest k)) e
            (ended_turn row rows more l at o1 w (each.goes row l o1 fits at holds1) (each.over row l o1))))))

        by : (fuel : ℕ) → o.server.fuel ≡ fuel → TurnsGo (begun row rows l o (and_then (replies position (unit_due fuel) o.server) (λ u s1. Got value.Unit (record s1 { fuel = s1.fuel - 1 })))) (run.with_unit fuel o.server (made row rows)) (λ rest k. replays (run.with_unit fuel o.server (made row rows)).nodes (client l) o.events rest k)
        by zero e = inl (record { at = at; fault = refl; why = refl; server = refl; replayed = λ rest k. refl })
        by (suc n1) e =
            subst (λ q. TurnsGo (handle (h c) (next (block (λ l2. effect (bound name row l2)) l) (later_turns rows)) (record o { server = record o.server { fuel = q } })) (made row rows (record o.server { fuel = n1 })) (λ rest k. replays (made row rows (record o.server { fuel = n1 })).nodes (client l) o.events rest k))
            (sym (one_less o.server.fuel n1 e)) (with_one (record o { server = record o.server { fuel = n1 } }) refl holds)

    pub turns_go : (rows : List Value) → All (Fits (is c) [] item) rows → More rows
    turns_go [] fit l o at holds = record { at = at; holds = holds; why = refl; server = refl; replayed = λ rest k. refl }
    turns_go (row ∷ rows) fit l o at holds = unit_turn row rows (turns_go rows (All-tail (Fits (is c) [] item) row rows fit)) (All-head (Fits (is c) [] item) row rows fit) l o at holds

    -- ---- the loop

    module _ (l : Local) (at : At c refs m vs ws vars l) (later : AllLater (suc n) go) where
      -- what follows the turns in the replay
      abbrev finish : replay.Rest
      finish l1 s1 = replay.unless (fault_at n s1.node) replay.far_fault l1 s1 (ke l1 s1)

      abbrev on_after : Turned → Ran
      on_after t = after_turns n position t.why t.server (λ s2. go vars s2)

      walked_goes : (w : Outcome (Unit {0}) × Outside) (t : Turned) (rep : Node → replay.Rest → Replayed) → TurnsGo w t rep → Goes c refs m' vs ws ws w (walked n position t (λ s2. go vars s2)) (rep (on_after t).node finish) go ke
      walked_goes (Gave u l1, s1) t rep q =
          let k = ap (λ z. after_turns n position z t.server (λ s2. go vars s2)) q.why ∙ ap (go vars) q.server in
          record {
            vars = vars;
            at = at_up c refs m m' vs ws vars l1 up q.at;
            holds = q.holds;
            fault = ap (λ z. z.fault) k;
            server = ap (λ z. z.server) k;
            replayed = ap (λ z. rep z.node finish) k ∙ q.replayed (go vars s1.server).node finish
                ∙ ap (λ z. replay.unless z replay.far_fault (client l1) (at_node c s1 (go vars s1.server)) (ke (client l1) (at_node c s1 (go vars s1.server)))) (none_here n (go vars s1.server).node (later vars s1.server));
          }
      walked_goes (Faulted r l1, s1) t rep (inl q) =
          let k = ap (λ z. after_turns n position z t.server (λ s2. go vars s2)) q.why in
          let stopped = run.stopped n position fuel_used t.server in
          let e = ap (λ z. rep z.node finish) k ∙ q.replayed stopped.node finish ∙ unless_stops n position fuel_used replay.far_fault (client l1) (at_node c s1 stopped) (ke (client l1) (at_node c s1 stopped)) in
          record {
            local = client l1;
            fronts = fronts_same (x c) ws l1;
            state = q.at.fits.holds;
            ends = ap (λ z. z.outcome) e ∙ ap (λ z. Faulted (with_side c.p z) (client l1)) (sym q.fault);
            events = ap (λ z. z.events) e;
            far = λ is_far. (ap (λ z. z.fault) k ∙ ap (λ z. Some (placed z)) (sym q.fault), ap (λ z. z.server) k ∙ q.server);
          }
      walked_goes (Faulted r l1, s1) t rep (inr q) =
          let e = q.replayed (on_after t).node finish in
          record {
            local = client l1;
            fronts = fronts_same (x c) ws l1;
            state = q.fits.holds;
            ends = ap (λ z. z.outcome) e;
            events = ap (λ z. z.events) e;
            far = λ is_far.
                let both = q.far is_far in
                let k = ap (λ z. after_turns n position z t.server (λ s2. go vars s2)) both.0 in
                (ap (λ z. z.fault) k, ap (λ z. z.server) k ∙ both.1);
          }

      abbrev each_ran : Reply Value → Ran
      each_ran reply = on_reply n (and_then reply (rows_of position)) (λ rows s1. walked n position (run.turns run_turn rows s1) (λ s2. go vars s2))

      abbrev loop_part : part.Part
      loop_part = part.Turns n name row_kind pa

      abbrev replayed_loop : Outside → Ran → Replayed
      replayed_loop o ran = replay.replay c.p.classes c.gas loop_part (client l) (at_node c o ran) ke

      abbrev loops : Value → Local → Run (Unit {0})
      loops v l1 = turns position name (out-Value v) effect l1

      pub each_goes : (o : Outside) (w : Outcome Value × Outside) (reply : Reply Value) → Worth c refs m vs ws vars l at (kind.RowsOf item) o w reply → EachFault (IsRemote c.p) w.0
          → Goes c refs m' vs ws ws (handle (h c) (on loops w.0) w.1) (each_ran reply) (replayed_loop o (each_ran reply)) go ke
      each_goes o (Gave v l1, s1) reply worth far =
          let t = rows_value (Fits (is c) [] item) (out-Value v) worth.3 in
          let turned' = run.turns run_turn t.rows s1.server in
          let ran = walked n position turned' (λ s2. go vars s2) in
          let got : each_ran reply ≡ ran =
          ap (λ q. on_reply n (and_then q (rows_of position)) (λ rows s1. walked n position (run.turns run_turn rows s1) (λ s2. go vars s2))) worth.1
          ∙ ap (λ q. on_reply n (replies position (rows_in q) s1.server) (λ rows s1. walked n position (run.turns run_turn rows s1) (λ s2. go vars s2))) t.is in
          let went = turns_go t.rows t.fit l s1 at worth.4 in
          subst (λ z. Goes c refs m' vs ws ws (handle (h c) (loops v z) s1) (each_ran reply) (replayed_loop o (each_ran reply)) go ke) (sym worth.0)
          (subst (λ q. Goes c refs m' vs ws ws (handle (h c) (turns position name q effect l) s1) (each_ran reply) (replayed_loop o (each_ran reply)) go ke) (sym t.is)
          (subst (λ q. Goes c refs m' vs ws ws (handle (h c) (over_rows t.rows l) s1) q (replayed_loop o q) go ke) (sym got)
          (subst (λ q. Goes c refs m' vs ws ws (handle (h c) (over_rows t.rows l) s1) ran (replay.replay c.p.classes c.gas loop_part (client l) (record { events = q; node = ran.node }) ke) go ke) worth.2
          (subst (λ q. Goes c refs m' vs ws ws (handle (h c) (over_rows t.rows l) s1) ran q go ke)
          (sym (rows_front n turned'.nodes (on_after turned').node (client l) (at_node c s1 ran) (λ ns rest. replay.turns turn ns rest (client l) s1.events finish)))
          (walked_goes (handle (h c) (over_rows t.rows l) s1) turned' (λ rest k. replays turned'.nodes (client l) s1.events rest k) went)))))
      each_goes o (Faulted r l1, s1) reply worth far =
          let ran = run.stopped n r.at r.fault s1.server in
          let got : each_ran reply ≡ ran = ap (λ q. on_reply n (and_then q (rows_of position)) (λ rows s1. walked n position (run.turns run_turn rows s1) (λ s2. go vars s2))) worth.1 in
          subst (λ z. Went c ws r z s1 (each_ran reply) (replayed_loop o (each_ran reply))) (sym worth.0)
          (subst (λ z. Went c ws r l s1 z (replayed_loop o z)) (sym got)
          (stop_went c ws l refs m vs vars at r s1 n (replayed_loop o ran) far
          (rows_stop n r.at r.fault (client l) (at_node c o ran) (λ ns rest. replay.turns turn ns rest (client l) o.events finish) ∙ ap (λ q. record { outcome = Faulted (far_side r) (client l); events = q }) (sym worth.2))))
