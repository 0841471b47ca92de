-- What a part that goes through a list means, as the code performs it.
use Rattle.std.specs.Prelude.{◌≡◌, ◌≤◌, ◌-◌, ℕ, List, [], ◌∷◌, length, Result, Ok, Err}
use Rattle.std.specs.Borrow.{MutBor}
use Rattle.rb_trees.specs.Named.{lookup}
use Rattle.rb_trees.specs.declared.declarations.Class as class
use Rattle.rb_trees.specs.declared.values.Fault.{Fault}
use Rattle.rb_trees.specs.declared.values.Value.{Value}
use Rattle.rb_trees.specs.mirror.Forests.{Node, Nodes}
use Rattle.rb_meaning_bytes.specs.formats.ForestBytes.{count_nodes}
use Rattle.rb_meaning_code.specs.Calls.{unit_due}
use Rattle.rb_meaning_code.specs.Faults.{fuel_used, raised}
use Rattle.rb_meaning_code.specs.State.{Local, bound}
use Rattle.rb_meaning.specs.ConstantLists.{items_of}
use Rattle.rb_meaning_split.specs.Replay.{Seen, after_unit, ended, fault_at, list_turns, missed, on_items, on_rows, stopped}
use Rattle.rb_base.specs.Devices.{Device}
use Rattle.rb_base.specs.declared.sinks.Sink as sinks
use Rattle.rb_engine.specs.declared.state.State.{State}
use Rattle.rb_wire_forest.specs.Opens.{Open}
use Rattle.rb_client.specs.Walks.{Does, Meaning, SeesRows, SeesSomeRows, all_meant}
use Rattle.rb_client.specs.declared.early.Early.{Early}
use Rattle.rb_client.specs.declared.early.Early.TheVariants as early
use Rattle.rb_client.specs.declared.lists.ListLoop.{ListLoop}
use Rattle.rb_client.specs.declared.replay_world.ReplayWorld.{ReplayWorld}

-- Items were given, or their fault is raised at a position; unless memory ran out.
abbrev pub GivesItems : ℕ → Result (List Value) Fault → Result (List Value) Early → Type 0
GivesItems at meant (Ok items) = meant ≡ Ok items
GivesItems at meant (Err (early.Raised r)) = (f : Fault) × (meant ≡ Err f) × (r ≡ raised f at)
GivesItems at meant (Err early.WriteFault) = ⊥
GivesItems at meant (Err early.Memory) = Unit {0}

-- A unit of fuel was spent, or the want of it is raised at a position, and nothing changed; nor did it where the fault found
-- no room.
abbrev pub Spends : ℕ → State → Result (Unit {0}) Early → State → Type 0
Spends at before (Ok u) after = (unit_due before.fuel ≡ Ok tt) × (after ≡ record before { fuel = before.fuel - 1 })
Spends at before (Err (early.Raised r)) after = (unit_due before.fuel ≡ Err fuel_used) × (r ≡ raised fuel_used at) × (after ≡ before)
Spends at before (Err early.WriteFault) after = ⊥
Spends at before (Err early.Memory) after = (unit_due before.fuel ≡ Err fuel_used) × (after ≡ before)

-- a turn over an item, which is bound to its name
abbrev pub item_meant : List class.Class → ListLoop → Value → Meaning
item_meant classes t v gas l s go = all_meant classes t.body.now gas (bound t.name.now v l) s go

-- turns over items, each on the next of nodes, and the node behind them
abbrev pub items_over : List class.Class → ListLoop → List Value → Nodes → Node → Meaning
items_over classes t vs ns rest gas l s go =
    list_turns t.step t.at (λ v n l1 events. item_meant classes t v gas l1 (record { events = events; node = n }) ended) vs ns rest l s.events go

-- what comes of items that no node is left for
abbrev pub lack_meant : ListLoop → List Value → Meaning
lack_meant t [] gas l s go = go l s
lack_meant t (v ∷ vs) gas l s go = after_unit t.at l s.events (λ l1. stopped (missed (fault_at t.step s.node)) l1 s)

-- the turns over items on the rows that stand first
abbrev pub list_turned : List class.Class → ListLoop → List Value → Meaning
list_turned classes t vs gas l s go = on_rows t.step s.node l s (λ ns rest. items_over classes t vs ns rest gas l s go)

-- a loop over the list that has a name
abbrev pub list_meant : List class.Class → ListLoop → Meaning
list_meant classes t gas l s go =
    on_items t.at (items_of (lookup l.names t.list.now)) l s.events (λ vs. list_turned classes t vs gas l s go)

-- What performing turns over items on rows that are open ensures, where each item has a node: they did what they mean. The rows
-- are open still.
pub record PerformsItems {W : Type 0} (g : sinks.Ghosts W) (classes : List class.Class) (t : ListLoop) (vs : List Value) (before : Local) (w : ReplayWorld W) (result : Result (Unit {0}) Early) (after : Local) (w' : ReplayWorld W) : Type 0 where
  pub fuel : after.fuel ≤ before.fuel
  pub depth : after.depth ≡ before.depth
  pub does : (gas : ℕ) → before.fuel ≤ gas → (out : MutBor W) (start : Device (List ℕ)) (below : List Open) (ns : Nodes) (s : Seen) → length vs ≤ count_nodes ns → SeesRows g out start below ns w s
      → Does g out start (SeesSomeRows g out start below) (items_over classes t vs ns s.node gas before s) result after w'
