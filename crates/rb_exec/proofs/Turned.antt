-- Turns over rows, one by one.
use Rattle.std.proofs.Common.{◌≡◌, inl, inr, refl, sym, ap, ◌∙◌, subst, ℕ, suc, ◌+◌, ◌<◌, ◌≤◌, ◌%◌, ◌^◌, arith, List, [], ◌∷◌, ◌++◌, append_assoc, append-nil, length, drop, get_or}
use Rattle.std.proofs.lemmas.List.{drop_all}
use Rattle.std.specs.Prelude.{Bool, true, false, is_some, Option, None, Some, Result, Ok, Err, MatchResult}
use Rattle.rb_trees.specs.Outcome.{Gives, ◌>>◌}
use Rattle.rb_trees.specs.declared.values.Value.{Value}
use Rattle.rb_trees.specs.declared.values.Fault.{Fault}
use Rattle.rb_trees.specs.declared.versions.Version.{Version}
use Rattle.rb_trees.specs.mirror.Forests as forest
use Rattle.rb_trees.specs.mirror.Forests.{Node, Nodes, NoNodes, MoreNodes, NoEntries, MoreEntries}
use Rattle.rb_meaning_bytes.specs.formats.Fields.{number}
use Rattle.rb_meaning_bytes.specs.formats.ForestBytes.{node_bytes, nodes_bytes, count_nodes}
use Rattle.rb_meaning_code.specs.Faults.{fuel_used}
use Rattle.rb_meaning_code.specs.Remote.{Server, replies}
use Rattle.rb_meaning_code.specs.ScriptRun.{Vars, PlacedFault, Ran, Turned, Why, AllDone, InTurn, NoUnit, stopped, on_reply, may_keep, with_kept, with_unit, before_turns, turned_on, turns, turn_over, after_turns, walked}
use Rattle.rb_wire_fields.specs.Buffers.{Keeps}
use Rattle.rb_wire_fields.proofs.Kept.{keeps_same, keeps_more, keeps_through}
use Rattle.rb_engine.specs.Ends.{fault_of}
use Rattle.rb_engine.specs.Misses.{AtPlace, MissesBy}
use Rattle.rb_engine.specs.Servers.{TakesUnit}
use Rattle.rb_engine.specs.declared.ends.Failure.{Failure}
use Rattle.rb_engine.specs.declared.ends.Failure.TheVariants as failure
use Rattle.rb_engine.specs.declared.misses.Miss.{Miss}
use Rattle.rb_engine.specs.declared.misses.Miss.TheVariants as miss
use Rattle.rb_exec.specs.Holes.{filled}
use Rattle.rb_exec.specs.Written.{Written, written}
use Rattle.rb_exec.specs.Blocks.{Did, WroteNode, WroteTurns, EndsTurns, end_of, faulted_node}
use Rattle.rb_exec.specs.declared.ends.Stop.{Stop}
use Rattle.rb_exec.specs.declared.turns.TurnsEnd.{TurnsEnd}
use Rattle.rb_exec.specs.declared.turns.TurnsEnd.TheVariants as ends
use Rattle.rb_exec.proofs.Dropped.{dropped_one}
use Rattle.rb_exec.proofs.Entries.{gains_none, rows_added}
use Rattle.rb_exec.proofs.Done.{by_result, did_behind, extends_itself, stopped_by}

-- What was written of turns so far, and what those that are left mean, are all.
pub record TurnsSoFar {version : Version} (all : Turned) (before : Written version) (left : Turned) (now : Written version) : Type 0 where
  pub keeps : Keeps before.bytes now.bytes
  pub bytes : now.bytes ++ nodes_bytes version left.nodes ≡ before.bytes ++ nodes_bytes version all.nodes
  pub counts : (now.count + count_nodes left.nodes) % 2 ^ 32 ≡ (before.count + count_nodes all.nodes) % 2 ^ 32
  pub why : left.why ≡ all.why
  pub server : left.server ≡ all.server

pub turns_begin : {version : Version} (all : Turned) (before : Written version) → TurnsSoFar all before all before
turns_begin all before = record { keeps = keeps_same before.bytes before.bytes refl; bytes = refl; counts = refl; why = refl; server = refl }

wrap_one : (c d n : ℕ) → d ≡ (c + 1) % 2 ^ 32 → (d + n) % 2 ^ 32 ≡ (c + suc n) % 2 ^ 32
wrap_one c d n h = omega (arith, h)

-- one more node was written
one_turn : {version : Version} (all rest : Turned) (before : Written version) (n : Node) (old new : List ℕ) (count counted : ℕ) → new ≡ old ++ node_bytes version n → counted ≡ (count + 1) % 2 ^ 32
    → TurnsSoFar all before (before_turns n rest) (written version old count) → TurnsSoFar all before rest (written version new counted)
one_turn {version = version} all rest before n old new count counted b c so = record {
  keeps = keeps_through before.bytes old new so.keeps (keeps_more old new (node_bytes version n) b);
  bytes = ap (λ l. l ++ nodes_bytes version rest.nodes) b ∙ append_assoc old (node_bytes version n) (nodes_bytes version rest.nodes) ∙ so.bytes;
  counts = wrap_one count counted (count_nodes rest.nodes) c ∙ so.counts;
  why = so.why;
  server = so.server;
}

plus_nothing : (n : ℕ) → n % 2 ^ 32 ≡ (n + 0) % 2 ^ 32
plus_nothing n = omega arith

-- no turn is left
turns_so : {version : Version} (all left : Turned) (before now : Written version) (end : TurnsEnd) (s : Server) → TurnsSoFar all before left now → left.nodes ≡ NoNodes → end ≡ end_of left.why → s ≡ left.server
    → WroteTurns all before end now s
turns_so {version = version} all left before now end s so n w v = record {
  adds = record {
    bytes = sym (append-nil now.bytes) ∙ ap (λ ns. now.bytes ++ nodes_bytes version ns) (sym n) ∙ so.bytes;
    counts = plus_nothing now.count ∙ ap (λ ns. (now.count + count_nodes ns) % 2 ^ 32) (sym n) ∙ so.counts;
  };
  end_so = w ∙ ap end_of so.why;
  server_so = v ∙ so.server;
}

went_turn : (n : Node) (f : Option PlacedFault) (s : Server) (go : Server → Turned) → false ≡ is_some f → turned_on n f s go ≡ before_turns n (go s)
went_turn n None s go e = refl
went_turn n (Some f) s go e = absurd (cc e)

why_held : (f : Option PlacedFault) (n : Node) (s : Server) (go : Server → Turned) → true ≡ is_some f
    → (x : PlacedFault) × (turned_on n f s go ≡ before_turns n (record { nodes = NoNodes; why = InTurn x; server = s }))
why_held None n s go e = absurd (cc e)
why_held (Some f) n s go e = (f, refl)

-- what a turn means that a unit of fuel is there for
turn_with : (turn : Value → Server → Ran) (row : Value) (rows : List Value) (s s1 : Server) → s ≡ record s1 { fuel = suc s1.fuel }
    → turns turn (row ∷ rows) s ≡ turned_on (turn row s1).node (turn row s1).fault (turn row s1).server (turns turn rows)
turn_with turn row rows s s1 e = ap (turns turn (row ∷ rows)) e

-- a turn went to its end
pub turn_more : {version : Version} (turn : Value → Server → Ran) (all : Turned) (before : Written version) (rows : List Value) (i : ℕ) (row : Value) (s s1 s2 : Server) (old new : List ℕ) (count counted : ℕ) (halts : Bool) → i < length rows → row ≡ get_or rows i row
    → s ≡ record s1 { fuel = suc s1.fuel } → WroteNode version (turn row s1) old halts new s2 → halts ≡ false → counted ≡ (count + 1) % 2 ^ 32
    → TurnsSoFar all before (turns turn (drop i rows) s) (written version old count) → TurnsSoFar all before (turns turn (drop (i + 1) rows) s2) (written version new counted)
turn_more {version = version} turn all before rows i row s s1 s2 old new count counted halts l e u w off c so =
    let is : turns turn (drop i rows) s ≡ before_turns (turn row s1).node (turns turn (drop (i + 1) rows) s2) =
    ap (λ xs. turns turn xs s) (dropped_one rows i row l e) ∙ turn_with turn row (drop (i + 1) rows) s s1 u
    ∙ went_turn (turn row s1).node (turn row s1).fault (turn row s1).server (turns turn (drop (i + 1) rows)) (sym off ∙ w.stopped_so)
    ∙ ap (λ x. before_turns (turn row s1).node (turns turn (drop (i + 1) rows) x)) (sym w.server_so) in
    one_turn all (turns turn (drop (i + 1) rows) s2) before (turn row s1).node old new count counted w.bytes c (subst (λ t. TurnsSoFar all before t (written version old count)) is so)

-- all rows had their turns
pub turns_done : {version : Version} (turn : Value → Server → Ran) (all : Turned) (before now : Written version) (rows : List Value) (i : ℕ) (s : Server) → length rows ≤ i
    → TurnsSoFar all before (turns turn (drop i rows) s) now → WroteTurns all before ends.AllDone now s
turns_done turn all before now rows i s l so =
    turns_so all (turns turn [] s) before now ends.AllDone s (subst (λ xs. TurnsSoFar all before (turns turn xs s) now) (drop_all i rows l) so) refl refl refl

-- no unit of fuel was there
pub turns_short : {version : Version} (turn : Value → Server → Ran) (all : Turned) (before now : Written version) (rows : List Value) (i : ℕ) (row : Value) (s s1 : Server) → i < length rows → row ≡ get_or rows i row
    → s.fuel ≡ 0 → s1 ≡ s → TurnsSoFar all before (turns turn (drop i rows) s) now → WroteTurns all before ends.NoUnit now s1
turns_short turn all before now rows i row s s1 l e spent same so =
    let is : turns turn (drop i rows) s ≡ record { nodes = NoNodes; why = NoUnit; server = s } =
    ap (λ xs. turns turn xs s) (dropped_one rows i row l e)
    ∙ ap (λ n. with_unit n s (λ x. turned_on (turn row x).node (turn row x).fault (turn row x).server (turns turn (drop (i + 1) rows)))) spent in
    turns_so all (record { nodes = NoNodes; why = NoUnit; server = s }) before now ends.NoUnit s1 (subst (λ t. TurnsSoFar all before t now) is so) refl refl same

-- a fault stands within the last turn
pub turns_stopped : {version : Version} (turn : Value → Server → Ran) (all : Turned) (before : Written version) (rows : List Value) (i : ℕ) (row : Value) (s s1 s2 : Server) (old new : List ℕ) (count counted : ℕ) (halts : Bool) → i < length rows → row ≡ get_or rows i row
    → s ≡ record s1 { fuel = suc s1.fuel } → WroteNode version (turn row s1) old halts new s2 → halts ≡ true → counted ≡ (count + 1) % 2 ^ 32
    → TurnsSoFar all before (turns turn (drop i rows) s) (written version old count) → WroteTurns all before ends.InTurn (written version new counted) s2
turns_stopped {version = version} turn all before rows i row s s1 s2 old new count counted halts l e u w on c so =
    let h = why_held (turn row s1).fault (turn row s1).node (turn row s1).server (turns turn (drop (i + 1) rows)) (sym on ∙ w.stopped_so) in
    let last : Turned = record { nodes = NoNodes; why = InTurn h.0; server = (turn row s1).server } in
    let is : turns turn (drop i rows) s ≡ before_turns (turn row s1).node last =
    ap (λ xs. turns turn xs s) (dropped_one rows i row l e) ∙ turn_with turn row (drop (i + 1) rows) s s1 u ∙ h.1 in
    turns_so all last before (written version new counted) ends.InTurn s2
    (one_turn all last before (turn row s1).node old new count counted w.bytes c (subst (λ t. TurnsSoFar all before t (written version old count)) is so)) refl refl w.server_so

-- the entry of the turns, and what follows
after_so : {version : Version} (id at : ℕ) (why : Why) (s : Server) (end : TurnsEnd) (vars : Vars) (w : Written version) (r : Result (Unit {0}) Stop) → end ≡ end_of why → EndsTurns id at end r
    → Did (λ go. after_turns id at why s (λ s1. go vars s1)) w vars r w vars s
after_so id at AllDone s end vars w r e d = by_result (subst (λ x. EndsTurns id at x r) e d) (record { does = gains_none w (λ go. refl); binds = extends_itself })
after_so id at (InTurn f) s end vars w r e d = by_result (subst (λ x. EndsTurns id at x r) e d) (record { does = gains_none w (f, λ go. refl); binds = extends_itself })
after_so id at NoUnit s end vars w r e d = stopped_by w vars s (record { step = id; at = at; fault = fuel_used }) r (subst (λ x. EndsTurns id at x r) e d) (λ go. refl)

pub turns_walked : {version : Version} {vars : Vars} {s : Server} {r : Result (Unit {0}) Stop} (id at : ℕ) (t : Turned) (old holed now new : List ℕ) (hole begun count counted : ℕ) (end : TurnsEnd)
    → hole ≡ length (old ++ 0x33 ∷ []) → holed ≡ old ++ 0x33 ∷ [] ++ number 0 → WroteTurns t (written version holed 0) end (written version now begun) s → new ≡ filled hole (number begun) now
    → counted ≡ (count + 1) % 2 ^ 32 → EndsTurns id at end r → Did (λ go. walked id at t (λ s1. go vars s1)) (written version old count) vars r (written version new counted) vars s
turns_walked {version = version} {vars = vars} {s = s} {r = r} id at t old holed now new hole begun count counted end a h w f c e =
    did_behind {m1 = λ go. after_turns id at t.why t.server (λ s1. go vars s1)} {mid = written version new counted} (record {
      entries = MoreEntries (forest.Rows t.nodes) NoEntries;
      adds = rows_added t.nodes old holed now new hole begun count counted a h w.adds f c;
      says = λ go. refl;
    })
    (subst (λ x. Did (λ go. after_turns id at t.why x (λ s1. go vars s1)) (written version new counted) vars r (written version new counted) vars s) w.server_so
    (after_so id at t.why s end vars (written version new counted) r w.end_so e))

-- What a turn begins with.

pub turn_begins : (id at : ℕ) (keep : Bool) (row : Value) (block : Server → Ran) (s : Server) → may_keep keep row ≡ Ok tt
    → turn_over id at keep block row s ≡ with_kept keep row (block s)
turn_begins id at keep row block s e = ap (λ c. on_reply id (replies at (c >> Ok row) s) (λ v s1. with_kept keep v (block s1))) e

turn_faults : (id at : ℕ) (keep : Bool) (row : Value) (f : Fault) (block : Server → Ran) (s : Server) → may_keep keep row ≡ Err f
    → turn_over id at keep block row s ≡ stopped id at f s
turn_faults id at keep row f block s e = ap (λ c. on_reply id (replies at (c >> Ok row) s) (λ v s1. with_kept keep v (block s1))) e

pub begins_so : (at : ℕ) (o : Result (Unit {0}) Failure) (d : Result (Unit {0}) Fault) (t : Result (Unit {0}) Miss) (u : Unit {0})
    → Gives (λ x. x) fault_of o d → AtPlace at o t → t ≡ Ok u → d ≡ Ok tt
begins_so at (Ok x) d t u g is was = g
begins_so at (Err (failure.Fault f)) d t u g is was = absurd (subst (λ x. MatchResult x (λ a. ⊥) (MissesBy at f)) was is)
begins_so at (Err failure.Memory) d t u g is was = absurd (cc (is, was))

missed_so : (at place : ℕ) (x f : Fault) → MissesBy at x (miss.Fault place f) → (x ≡ f) × (at ≡ place)
missed_so at place x f (inl e) = (cc e, cc e)
missed_so at place x f (inr e) = absurd (cc e)

-- A turn whose row may not be kept is its fault alone.
pub turn_faulted : {version : Version} (id at place : ℕ) (keep : Bool) (row : Value) (f : Fault) (block : Server → Ran) (s : Server) (old new : List ℕ) (o : Result (Unit {0}) Failure) (t : Result (Unit {0}) Miss)
    → Gives (λ x. x) fault_of o (may_keep keep row) → AtPlace at o t → t ≡ Err (miss.Fault place f) → new ≡ old ++ node_bytes version (faulted_node id place f)
    → WroteNode version (turn_over id at keep block row s) old true new s
turn_faulted id at place keep row f block s old new (Ok x) t g is was e = absurd (cc (is, was))
turn_faulted {version = version} id at place keep row f block s old new (Err (failure.Fault x)) t g is was e =
    let so = missed_so at place x f (subst (λ y. MatchResult y (λ a. ⊥) (MissesBy at x)) was is) in
    let meant : turn_over id at keep block row s ≡ stopped id place f s =
    turn_faults id at keep row x block s g ∙ ap (λ y. stopped id at y s) so.0 ∙ ap (λ y. stopped id y f s) so.1 in
    record {
      bytes = e ∙ ap (λ r. old ++ node_bytes version r.node) (sym meant);
      stopped_so = ap (λ r. is_some r.fault) (sym meant);
      server_so = ap (λ r. r.server) (sym meant);
    }
turn_faulted id at place keep row f block s old new (Err failure.Memory) t g is was e = absurd (cc (is, was))

-- units of fuel
pub unit_missing : (s s1 : Server) (b : Bool) → TakesUnit s b s1 → b ≡ false → (s.fuel ≡ 0) × (s1 ≡ s)
unit_missing s s1 true h e = absurd (cc e)
unit_missing s s1 false h e = h

pub unit_taken : (s s1 : Server) (b : Bool) → TakesUnit s b s1 → b ≡ true → s ≡ record s1 { fuel = suc s1.fuel }
unit_taken s s1 true h e = h
unit_taken s s1 false h e = absurd (cc e)
