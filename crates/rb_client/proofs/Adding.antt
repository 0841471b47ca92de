-- What a remainder does to the events, where what follows it does so.
use Rattle.std.proofs.Common.{ℕ, List, [], ◌∷◌, length}
use Rattle.std.specs.Prelude.{Bool, true, false, cond, Option, None, Some, Result, Ok, Err}
use Rattle.rb_trees.specs.declared.forests.NodeFault.{NodeFault}
use Rattle.rb_trees.specs.declared.outcomes.Raised.{Raised}
use Rattle.rb_trees.specs.Named.{lookup}
use Rattle.rb_trees.specs.declared.values.Fault.{Fault}
use Rattle.rb_trees.specs.declared.values.Value.{Value}
use Rattle.rb_trees.specs.mirror.Declarations.{Class}
use Rattle.rb_trees.specs.mirror.Forests as forest
use Rattle.rb_trees.specs.mirror.Forests.{Node, Holds, NoEntries, MoreEntries, Nodes, NoNodes, MoreNodes}
use Rattle.rb_trees.specs.mirror.Remainders as part
use Rattle.rb_trees.specs.mirror.Remainders.{Part, Parts, NoParts, MoreParts}
use Rattle.rb_meaning_bytes.specs.Fits.{is_kept}
use Rattle.rb_meaning_code.specs.Bodies.{bodies_of}
use Rattle.rb_meaning_code.specs.Calls.{unit_due}
use Rattle.rb_meaning_code.specs.Dialogue.{Outcome, Gave, Faulted, handle}
use Rattle.rb_meaning_code.specs.Expressions.{evaluates}
use Rattle.rb_meaning_code.specs.State.{Local, bound, spent}
use Rattle.rb_meaning_code.specs.Statements.{performs}
use Rattle.rb_meaning.specs.State.{Event}
use Rattle.rb_meaning.specs.ConstantLists.{items_of}
use Rattle.rb_meaning_split.specs.Replay.{Seen, Replayed, Rest, after, behind, ended, far_fault, fault_at, in_replay, list_turns, missed, on_branch, on_items, on_rows, on_turn, on_unit, on_value, own_fault, replay, replay_all, taken, turns, unless}
use Rattle.rb_client.proofs.Events.{Coming, replay_more}

module _ (c : Coming) where
  -- What follows does so to the events.
  abbrev pub AddsBy : Rest → Type 0
  AddsBy go = (l : Local) (s : Seen) → c.Later s.events (go l s).events

  pub ended_adds : AddsBy ended
  ended_adds l s = c.same s.events

  pub after_more : {A : Type 0} (r : Outcome A × Seen) (go : A → Rest) (es : List Event) → c.Later es r.1.events → ((a : A) → AddsBy (go a)) → c.Later es (after r go).events
  after_more (Gave a l, s) go es m adds = c.far es s.events (go a l s).events m (adds a l s)
  after_more (Faulted r l, s) go es m adds = m

  pub unless_more : (o : Option NodeFault) (side : NodeFault → Raised) (l : Local) (s : Seen) (other : Replayed) → c.Later s.events other.events → c.Later s.events (unless o side l s other).events
  unless_more (Some f) side l s other m = c.same s.events
  unless_more None side l s other m = m

  on_value_more : (t : Result Value Raised × Node) (l : Local) (s : Seen) (go : Value → Seen → Replayed) → ((v : Value) (n : Node) → c.Later s.events (go v (record s { node = n })).events)
      → c.Later s.events (on_value t l s go).events
  on_value_more (Ok v, n) l s go m = m v n
  on_value_more (Err r, n) l s go m = c.same s.events

  by_outcome : (count : ℕ) (rest : Node) (o : Outcome (Unit {0})) (events : List Event) (go : Rest) (es : List Event) → c.Later es events → AddsBy go
      → c.Later es (behind count rest (record { outcome = o; events = events }) go).events
  by_outcome count rest (Gave u l) events go es m adds = c.far es events _ m (adds _ (record { events = events; node = rest }))
  by_outcome count rest (Faulted r l) events go es m adds = m

  pub behind_more : (count : ℕ) (rest : Node) (r : Replayed) (go : Rest) (es : List Event) → c.Later es r.events → AddsBy go → c.Later es (behind count rest r go).events
  behind_more count rest r go es m adds = by_outcome count rest r.outcome r.events go es m adds

  on_branch_more : (step : ℕ) (n : Node) (l : Local) (s : Seen) (go : Bool → Node → Node → Replayed) → ((holds : Bool) (inner rest : Node) → c.Later s.events (go holds inner rest).events)
      → c.Later s.events (on_branch step n l s go).events
  on_branch_more step (Holds NoEntries f) l s go m = c.same s.events
  on_branch_more step (Holds (MoreEntries (forest.Value v) es) f) l s go m = c.same s.events
  on_branch_more step (Holds (MoreEntries (forest.Branch holds n) es) f) l s go m = m holds n (Holds es f)
  on_branch_more step (Holds (MoreEntries (forest.Rows ns) es) f) l s go m = c.same s.events

  pub on_rows_more : (step : ℕ) (n : Node) (l : Local) (s : Seen) (go : Nodes → Node → Replayed) → ((ns : Nodes) (rest : Node) → c.Later s.events (go ns rest).events)
      → c.Later s.events (on_rows step n l s go).events
  on_rows_more step (Holds NoEntries f) l s go m = c.same s.events
  on_rows_more step (Holds (MoreEntries (forest.Value v) es) f) l s go m = c.same s.events
  on_rows_more step (Holds (MoreEntries (forest.Branch holds n) es) f) l s go m = c.same s.events
  on_rows_more step (Holds (MoreEntries (forest.Rows ns) es) f) l s go m = m ns (Holds es f)

  pub on_turn_more : (kept : Bool) (step : ℕ) (name : List ℕ) (l : Local) (s : Seen) (go : Rest) → AddsBy go → c.Later s.events (on_turn kept step name l s go).events
  on_turn_more true step name l s go adds = on_value_more (taken step s.node) l s (λ v s1. go (bound name v l) s1) (λ v n. adds (bound name v l) (record s { node = n }))
  on_turn_more false step name l s go adds = adds l s

  pub turns_more : (turn : Node → Local → List Event → Replayed) (ns : Nodes) (rest : Node) (l : Local) (events : List Event) (go : Rest)
      → ((n : Node) (l1 : Local) (es : List Event) → c.Later es (turn n l1 es).events) → AddsBy go → c.Later events (turns turn ns rest l events go).events
  turns_more turn NoNodes rest l events go m adds = adds l (record { events = events; node = rest })
  turns_more turn (MoreNodes n ns) rest l events go m adds =
      behind_more (length l.names) rest (turn n l events) (λ l1 s1. turns turn ns rest l1 s1.events go) events (m n l events) (λ l1 s1. turns_more turn ns rest l1 s1.events go m adds)

  pub on_unit_more : (at : ℕ) (u : Result (Unit {0}) Fault) (l : Local) (events : List Event) (go : Local → Replayed) → ((l1 : Local) → c.Later events (go l1).events) → c.Later events (on_unit at u l events go).events
  on_unit_more at (Ok u) l events go m = m (spent l)
  on_unit_more at (Err f) l events go m = c.same events

  on_items_more : (at : ℕ) (r : Result (List Value) Fault) (l : Local) (events : List Event) (go : List Value → Replayed) → ((vs : List Value) → c.Later events (go vs).events) → c.Later events (on_items at r l events go).events
  on_items_more at (Ok vs) l events go m = m vs
  on_items_more at (Err f) l events go m = c.same events

  pub list_turns_more : (step at : ℕ) (turn : Value → Node → Local → List Event → Replayed) (vs : List Value) (ns : Nodes) (rest : Node) (l : Local) (events : List Event) (go : Rest)
      → ((v : Value) (n : Node) (l1 : Local) (es : List Event) → c.Later es (turn v n l1 es).events) → AddsBy go → c.Later events (list_turns step at turn vs ns rest l events go).events
  list_turns_more step at turn [] ns rest l events go m adds = adds l (record { events = events; node = rest })
  list_turns_more step at turn (v ∷ vs) NoNodes rest l events go m adds =
      on_unit_more at (unit_due l.fuel) l events (λ l1. record { outcome = Faulted (missed (fault_at step rest)) l1; events = events }) (λ l1. c.same events)
  list_turns_more step at turn (v ∷ vs) (MoreNodes n ns) rest l events go m adds =
      on_unit_more at (unit_due l.fuel) l events (λ l1. behind (length l1.names) rest (turn v n l1 events) (λ l2 s2. list_turns step at turn vs ns rest l2 s2.events go)) (λ l1.
      behind_more (length l1.names) rest (turn v n l1 events) (λ l2 s2. list_turns step at turn vs ns rest l2 s2.events go) events (m v n l1 events)
      (λ l2 s2. list_turns_more step at turn vs ns rest l2 s2.events go m adds))

  chosen_more : (holds : Bool) (a b : Replayed) (es : List Event) → c.Later es a.events → c.Later es b.events → c.Later es (cond holds a b).events
  chosen_more true a b es m n = m
  chosen_more false a b es m n = n

  module _ (classes : List Class) (gas : ℕ) where
    mutual
      pub part_more : (p : Part) (l : Local) (s : Seen) (go : Rest) → AddsBy go → c.Later s.events (replay classes gas p l s go).events
      part_more (part.Plain stmt takes) l s go adds =
          let run = performs (bodies_of classes gas) gas stmt l in
          after_more (handle in_replay run s) (λ u l1 s1. go l1 s1) s.events (replay_more c run s) (λ u. adds)
      part_more (part.Pass step) l s go adds = unless_more (fault_at step s.node) far_fault l s (go l s) (adds l s)
      part_more (part.Bind step name k) l s go adds =
          on_value_more (taken step s.node) l s (λ v s1. go (bound name v l) s1) (λ v n. adds (bound name v l) (record s { node = n }))
      part_more (part.Both step at name e) l s go adds =
          let run = evaluates (bodies_of classes gas) e l in
          unless_more (fault_at step s.node) own_fault l s (after (handle in_replay run s) (λ v l1 s1. go (bound name v l1) s1))
          (after_more (handle in_replay run s) (λ v l1 s1. go (bound name v l1) s1) s.events (replay_more c run s) (λ v l1 s1. adds (bound name v l1) s1))
      part_more (part.Branch step a b) l s go adds =
          on_branch_more step s.node l s (λ holds n rest.
          behind (length l.names) rest (cond holds (replay_all classes gas a l (record s { node = n }) ended) (replay_all classes gas b l (record s { node = n }) ended)) go)
          (λ holds n rest.
          behind_more (length l.names) rest (cond holds (replay_all classes gas a l (record s { node = n }) ended) (replay_all classes gas b l (record s { node = n }) ended)) go s.events
          (chosen_more holds (replay_all classes gas a l (record s { node = n }) ended) (replay_all classes gas b l (record s { node = n }) ended) s.events
          (parts_more a l (record s { node = n }) ended ended_adds) (parts_more b l (record s { node = n }) ended ended_adds)) adds)
      part_more (part.Turns step name k body) l s go adds =
          on_rows_more step s.node l s (λ ns rest.
          turns (λ n l1 events. on_turn (is_kept k) step name l1 (record { events = events; node = n }) (λ l2 s2. replay_all classes gas body l2 s2 ended)) ns rest l s.events
          (λ l1 s1. unless (fault_at step s1.node) far_fault l1 s1 (go l1 s1)))
          (λ ns rest.
          turns_more (λ n l1 events. on_turn (is_kept k) step name l1 (record { events = events; node = n }) (λ l2 s2. replay_all classes gas body l2 s2 ended)) ns rest l s.events
          (λ l1 s1. unless (fault_at step s1.node) far_fault l1 s1 (go l1 s1))
          (λ n l1 es. on_turn_more (is_kept k) step name l1 (record { events = es; node = n }) (λ l2 s2. replay_all classes gas body l2 s2 ended) (λ l2 s2. parts_more body l2 s2 ended ended_adds))
          (λ l1 s1. unless_more (fault_at step s1.node) far_fault l1 s1 (go l1 s1) (adds l1 s1)))
      part_more (part.Over step at name list input body) l s go adds =
          let turn : Value → Node → Local → List Event → Replayed = λ v n l1 events. replay_all classes gas body (bound name v l1) (record { events = events; node = n }) ended in
          on_items_more at (items_of (lookup l.names list)) l s.events (λ vs. on_rows step s.node l s (λ ns rest. list_turns step at turn vs ns rest l s.events go)) (λ vs.
          on_rows_more step s.node l s (λ ns rest. list_turns step at turn vs ns rest l s.events go) (λ ns rest.
          list_turns_more step at turn vs ns rest l s.events go (λ v n l1 es. parts_more body (bound name v l1) (record { events = es; node = n }) ended ended_adds) adds))

      pub parts_more : (ps : Parts) (l : Local) (s : Seen) (go : Rest) → AddsBy go → c.Later s.events (replay_all classes gas ps l s go).events
      parts_more NoParts l s go adds = adds l s
      parts_more (MoreParts p ps) l s go adds = part_more p l s (λ l1 s1. replay_all classes gas ps l1 s1 go) (λ l1 s1. parts_more ps l1 s1 go adds)
