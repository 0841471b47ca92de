-- Replay: the client performs the remainder of a batch on the node that the script gave. A part reads what its step gave; where
-- no entry is left and the node's fault is at the step, the fault is raised there, after the local effects before it. Each part
-- takes what follows it; the parts of a block are performed to their end, and then it goes on.
use Rattle.std.specs.Prelude.{ℕ, ◌==◌, List, [], ◌∷◌, ◌++◌, length, Bool, cond, nat_eq, Option, None, Some, Result, Ok, Err}
use Rattle.rb_trees.specs.Named.{lookup}
use Rattle.rb_trees.specs.declared.values.Value.{Value, out-Value}
use Rattle.rb_trees.specs.declared.values.Value.TheVariants as value
use Rattle.rb_trees.specs.declared.values.Fault.{Fault}
use Rattle.rb_trees.specs.declared.outcomes.Raised.{Raised}
use Rattle.rb_trees.specs.declared.forests.NodeFault.{NodeFault}
use Rattle.rb_trees.specs.mirror.Declarations.{Class}
use Rattle.rb_trees.specs.mirror.Forests as forest
use Rattle.rb_trees.specs.mirror.Forests.{Node, Holds, Entries, NoEntries, MoreEntries, Nodes, NoNodes, MoreNodes}
use Rattle.rb_trees.specs.mirror.Remainders as part
use Rattle.rb_trees.specs.mirror.Remainders.{Part, Parts, NoParts, MoreParts}
use Rattle.rb_meaning_bytes.specs.Fits.{is_kept}
use Rattle.rb_meaning_code.specs.Faults.{fuel_used, kind, raised, raised_remotely}
use Rattle.rb_meaning_code.specs.State.{Local, bound, closed, spent}
use Rattle.rb_meaning_code.specs.Dialogue as ask
use Rattle.rb_meaning_code.specs.Dialogue.{Question, Outcome, Gave, Faulted, Handler, handle}
use Rattle.rb_meaning_code.specs.Calls.{unit_due}
use Rattle.rb_meaning_code.specs.Expressions.{evaluates}
use Rattle.rb_meaning_code.specs.Statements.{performs}
use Rattle.rb_meaning_code.specs.Bodies.{bodies_of}
use Rattle.rb_meaning.specs.ConstantLists.{items_of}
use Rattle.rb_meaning.specs.State as state
use Rattle.rb_meaning.specs.State.{Event}

-- what surrounds code that is replayed: the events so far, and what is left of the node
pub record Seen : Type 0 where
  pub events : List Event
  pub node : Node

-- the fault of a node at a step, where no entry is left
abbrev pub at_step : ℕ → Option NodeFault → Option NodeFault
at_step step None = None
at_step step (Some f) = cond (nat_eq f.step step) (Some f) None

abbrev pub fault_at : ℕ → Node → Option NodeFault
fault_at step (Holds NoEntries f) = at_step step f
fault_at step (Holds (MoreEntries e es) f) = None

-- the fault of a node, which is remote
abbrev pub far_fault : NodeFault → Raised
far_fault f = raised_remotely f.fault f.at

-- where a node lacks what a part reads, as one that fits never does, Kind stands in its place
abbrev pub missed : Option NodeFault → Raised
missed (Some f) = far_fault f
missed None = raised kind 0

-- what a step kept, and the node behind it
abbrev pub taken : ℕ → Node → Result Value Raised × Node
taken step (Holds (MoreEntries (forest.Value v) es) f) = (Ok v, Holds es f)
taken step n = (Err (missed (fault_at step n)), n)

abbrev pub with_taken : Seen → Result Value Raised × Node → Result Value Raised × Seen
with_taken s (answer, n) = (answer, record s { node = n })

-- what code is answered that is replayed: a line is printed, and what was kept is read; nothing else is remote
abbrev pub answers_replayed : Seen → Question → Result Value Raised × Seen
answers_replayed s (ask.Line at bytes) = (Ok value.Unit, record s { events = s.events ++ state.Line bytes ∷ [] })
answers_replayed s (ask.Taken step) = with_taken s (taken step s.node)
answers_replayed s (ask.Invoke at target method args) = (Err (raised kind at), s)
answers_replayed s (ask.Turn at) = (Err (raised kind at), s)
answers_replayed s (ask.ListTurn at) = (Ok value.Unit, s)

-- the surroundings of code that is replayed; no batch stands in it
abbrev pub in_replay : Handler Seen
in_replay = record { answer = answers_replayed; batch = λ s at l. (Faulted (raised kind at) l, s) }

-- how a remainder ends, and the events then
pub record Replayed : Type 0 where
  pub outcome : Outcome (Unit {0})
  pub events : List Event

-- what follows, from the local state and the surroundings of then
abbrev pub Rest : Type 0
Rest = Local → Seen → Replayed

-- the end of a block
abbrev pub ended : Rest
ended l s = record { outcome = Gave tt l; events = s.events }

abbrev pub stopped : Raised → Local → Seen → Replayed
stopped r l s = record { outcome = Faulted r l; events = s.events }

-- the node's fault at a step, or what follows
abbrev pub unless : Option NodeFault → (NodeFault → Raised) → Local → Seen → Replayed → Replayed
unless (Some f) side l s other = stopped (side f) l s
unless None side l s other = other

-- A fault of a value that both sides evaluate is the client's own, but for want of fuel, by which it never ends here.
abbrev pub own_fault : NodeFault → Raised
own_fault f = record { fault = f.fault; at = f.at; remote = f.fault.code == fuel_used.code }

-- a value that was read, or the fault in its place
abbrev pub on_value : Result Value Raised × Node → Local → Seen → (Value → Seen → Replayed) → Replayed
on_value (Ok v, n) l s go = go v (record s { node = n })
on_value (Err r, n) l s go = stopped r l s

-- goes on after code, unless it ended by a fault
abbrev pub after : {A : Type 0} → Outcome A × Seen → (A → Rest) → Replayed
after (Gave a l, s) go = go a l s
after (Faulted r l, s) go = stopped r l s

-- a block's names go at its end, by a fault too; then the node goes on behind the entry
abbrev pub behind_end : ℕ → Node → Outcome (Unit {0}) → List Event → Rest → Replayed
behind_end count rest (Gave u l) events go = go (closed count l) (record { events = events; node = rest })
behind_end count rest (Faulted r l) events go = record { outcome = Faulted r (closed count l); events = events }

abbrev pub behind : ℕ → Node → Replayed → Rest → Replayed
behind count rest r go = behind_end count rest r.outcome r.events go

-- the branch that was taken, with its node and the node behind it
abbrev pub on_branch : ℕ → Node → Local → Seen → (Bool → Node → Node → Replayed) → Replayed
on_branch step (Holds (MoreEntries (forest.Branch holds n) es) f) l s go = go holds n (Holds es f)
on_branch step n l s go = stopped (missed (fault_at step n)) l s

-- the nodes of the turns, and the node behind them
abbrev pub on_rows : ℕ → Node → Local → Seen → (Nodes → Node → Replayed) → Replayed
on_rows step (Holds (MoreEntries (forest.Rows ns) es) f) l s go = go ns (Holds es f)
on_rows step n l s go = stopped (missed (fault_at step n)) l s

-- what follows, where a unit of fuel is there
abbrev pub on_unit : ℕ → Result (Unit {0}) Fault → Local → List Event → (Local → Replayed) → Replayed
on_unit at (Ok u) l events go = go (spent l)
on_unit at (Err f) l events go = record { outcome = Faulted (raised f at) l; events = events }

-- a turn, which begins with its row where rows are kept
abbrev pub on_turn : Bool → ℕ → List ℕ → Local → Seen → Rest → Replayed
on_turn kept step name l s go = cond kept (on_value (taken step s.node) l s (λ v s1. go (bound name v l) s1)) (go l s)

-- the turns in order, each with its node, and what follows them
abbrev pub turns : (Node → Local → List Event → Replayed) → Nodes → Node → Local → List Event → Rest → Replayed
turns turn NoNodes rest l events go = go l (record { events = events; node = rest })
turns turn (MoreNodes n ns) rest l events go = behind (length l.names) rest (turn n l events) (λ l1 s1. turns turn ns rest l1 s1.events go)

-- goes on with a unit of the client's own fuel less, which is due at a position
abbrev pub after_unit : ℕ → Local → List Event → (Local → Replayed) → Replayed
after_unit at l events go = on_unit at (unit_due l.fuel) l events go

-- The turns over the items of a list in order, each with the next of the nodes. It takes a unit of fuel first. Where no node is
-- left, the node's fault comes that stands at the step.
abbrev pub list_turns : (step at : ℕ) → (Value → Node → Local → List Event → Replayed) → List Value → Nodes → Node → Local → List Event → Rest → Replayed
list_turns step at turn [] ns rest l events go = go l (record { events = events; node = rest })
list_turns step at turn (v ∷ vs) NoNodes rest l events go = after_unit at l events (λ l1. record { outcome = Faulted (missed (fault_at step rest)) l1; events = events })
list_turns step at turn (v ∷ vs) (MoreNodes n ns) rest l events go =
    after_unit at l events (λ l1. behind (length l1.names) rest (turn v n l1 events) (λ l2 s2. list_turns step at turn vs ns rest l2 s2.events go))

-- goes on with items, or the fault in their place
abbrev pub on_items : ℕ → Result (List Value) Fault → Local → List Event → (List Value → Replayed) → Replayed
on_items at (Ok items) l events go = go items
on_items at (Err f) l events go = record { outcome = Faulted (raised f at) l; events = events }

-- of code with these classes, within so much gas
module _ (classes : List Class) (gas : ℕ) where
  abbrev mutual
    -- a part, and what follows it
    pub replay : Part → Local → Seen → Rest → Replayed
    replay (part.Plain stmt takes) l s go = after (handle in_replay (performs (bodies_of classes gas) gas stmt l) s) (λ u l1 s1. go l1 s1)
    replay (part.Pass step) l s go = unless (fault_at step s.node) far_fault l s (go l s)
    replay (part.Bind step name k) l s go = on_value (taken step s.node) l s (λ v s1. go (bound name v l) s1)
    replay (part.Both step at name e) l s go =
        unless (fault_at step s.node) own_fault l s
        (after (handle in_replay (evaluates (bodies_of classes gas) e l) s) (λ v l1 s1. go (bound name v l1) s1))
    replay (part.Branch step a b) l s go =
        on_branch step s.node l s (λ holds n rest.
        behind (length l.names) rest
        (cond holds (replay_all a l (record s { node = n }) ended) (replay_all b l (record s { node = n }) ended)) go)
    replay (part.Turns step name k body) l s go =
        on_rows step s.node l s (λ ns rest.
        turns (λ n l1 events. on_turn (is_kept k) step name l1 (record { events = events; node = n }) (λ l2 s2. replay_all body l2 s2 ended)) ns rest l s.events
        (λ l1 s1. unless (fault_at step s1.node) far_fault l1 s1 (go l1 s1)))
    replay (part.Over step at name list input body) l s go =
        on_items at (items_of (lookup l.names list)) l s.events (λ items.
        on_rows step s.node l s (λ ns rest.
        list_turns step at (λ v n l1 events. replay_all body (bound name v l1) (record { events = events; node = n }) ended) items ns rest l s.events go))

    -- parts in order, and what follows them
    pub replay_all : Parts → Local → Seen → Rest → Replayed
    replay_all NoParts l s go = go l s
    replay_all (MoreParts p ps) l s go = replay p l s (λ l1 s1. replay_all ps l1 s1 go)
