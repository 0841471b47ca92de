-- What the parts of a remainder mean, as the code performs them.
use Rattle.std.specs.Prelude.{◌≡◌, ◌≤◌, ℕ, List, [], ◌∷◌, length, map, Bool, true, false, Result, Ok, Err}
use Rattle.std.specs.Borrow.{MutBor}
use Rattle.rb_trees.specs.declared.code.Expr as expr
use Rattle.rb_trees.specs.declared.code.Stmt as stmt
use Rattle.rb_trees.specs.declared.declarations.Class as class
use Rattle.rb_trees.specs.declared.remainders.Part as part
use Rattle.rb_trees.specs.mirror.Code.{mirror_expr, mirror_stmt}
use Rattle.rb_trees.specs.mirror.Declarations.{mirror_class}
use Rattle.rb_trees.specs.mirror.Forests.{Node, Nodes}
use Rattle.rb_trees.specs.mirror.Remainders as code
use Rattle.rb_trees.specs.mirror.Remainders.{Part, Parts, mirror_part, mirror_parts}
use Rattle.rb_meaning_bytes.specs.formats.ForestBytes.{count_nodes}
use Rattle.rb_meaning_code.specs.Dialogue.{Gave, Faulted}
use Rattle.rb_meaning_code.specs.State.{Local, bound}
use Rattle.rb_meaning_split.specs.Client.{left}
use Rattle.rb_meaning_split.specs.Replay.{Seen, Replayed, Rest, ended, far_fault, fault_at, on_rows, on_turn, on_value, replay, replay_all, stopped, taken, turns, unless}
use Rattle.rb_base.specs.Devices.{Device}
use Rattle.rb_base.specs.declared.sinks.Sink as sinks
use Rattle.rb_wire_forest.specs.Opens.{Open, AtRows, AtNode}
use Rattle.rb_client.specs.Events.{Adds}
use Rattle.rb_client.specs.Worlds.{CutsReplay, SeesOpen, SeesReplay}
use Rattle.rb_client.specs.declared.early.Early.{Early}
use Rattle.rb_client.specs.declared.early.Early.TheVariants as early
use Rattle.rb_client.specs.declared.replay.Loop.{Loop}
use Rattle.rb_client.specs.declared.replay_world.ReplayWorld.{ReplayWorld}

-- what parts mean within a gas, from a local state and surroundings, before whatever follows them
abbrev pub Meaning : Type 0
Meaning = ℕ → Local → Seen → Rest → Replayed

-- Parts did what they mean, whatever follows them: that is gone on with, from this local state and a state as which the World is
-- seen; or a fault ended them. Where a write failed, it did so in what is shown, if what follows only adds to it. Nothing is said
-- after want of memory.
abbrev pub Does : {W : Type 0} → sinks.Ghosts W → MutBor W → Device (List ℕ) → (ReplayWorld W → Seen → Type 0) → (Rest → Replayed) → Result (Unit {0}) Early → Local → ReplayWorld W → Type 0
Does g out start sees meaning (Ok u) l w = (s : Seen) × sees w s × ((go : Rest) → meaning go ≡ go l s)
Does g out start sees meaning (Err (early.Raised r)) l w = (s : Seen) × sees w s × ((go : Rest) → meaning go ≡ stopped r l s)
Does g out start sees meaning (Err early.WriteFault) l w = (go : Rest) → Adds go → CutsReplay g out start w (meaning go).events
Does g out start sees meaning (Err early.Memory) l w = Unit {0}

-- What performing parts ensures: they did what they mean, within any gas that is at least the fuel, and what is open further out
-- than their node is so still. Fuel doesn't rise, and the number of active calls is the same.
pub record Performs {W : Type 0} (g : sinks.Ghosts W) (meaning : Meaning) (before : Local) (w : ReplayWorld W) (result : Result (Unit {0}) Early) (after : Local) (w' : ReplayWorld W) : Type 0 where
  pub fuel : after.fuel ≤ before.fuel
  pub depth : after.depth ≡ before.depth
  pub does : (gas : ℕ) → before.fuel ≤ gas → (out : MutBor W) (start : Device (List ℕ)) (below : List Open) (s : Seen) → SeesReplay g out start below w s
      → Does g out start (SeesReplay g out start below) (meaning gas before s) result after w'

-- It ended so, with this local state, in which the names behind so many are gone; this was shown, and this is open. Nothing is
-- said after want of memory.
abbrev pub Ends : {W : Type 0} → sinks.Ghosts W → MutBor W → Device (List ℕ) → List Open → ℕ → Replayed → Result (Unit {0}) Early → Local → ReplayWorld W → Type 0
Ends g out start open_now count r (Ok u) l w = (left count r.outcome ≡ Gave tt l) × SeesOpen g out start open_now w r.events
Ends g out start open_now count r (Err (early.Raised f)) l w = (left count r.outcome ≡ Faulted f l) × SeesOpen g out start open_now w r.events
Ends g out start open_now count r (Err early.WriteFault) l w = CutsReplay g out start w r.events
Ends g out start open_now count r (Err early.Memory) l w = Unit {0}

-- What performing parts to their end on a node of their own ensures: they ended as they mean, and their node is closed, so that
-- all that is open further out is open now.
pub record Encloses {W : Type 0} (g : sinks.Ghosts W) (meaning : Meaning) (before : Local) (w : ReplayWorld W) (result : Result (Unit {0}) Early) (after : Local) (w' : ReplayWorld W) : Type 0 where
  pub fuel : after.fuel ≤ before.fuel
  pub depth : after.depth ≡ before.depth
  pub ends : (gas : ℕ) → before.fuel ≤ gas → (out : MutBor W) (start : Device (List ℕ)) (outer : Open) (below : List Open) (s : Seen) → SeesReplay g out start (outer ∷ below) w s
      → Ends g out start (outer ∷ below) (length before.names) (meaning gas before s ended) result after w'

-- whether a part holds no parts
abbrev pub is_piece : Part → Bool
is_piece (code.Branch step a b) = false
is_piece (code.Turns step name kind body) = false
is_piece (code.Over step at name list input body) = false
is_piece _ = true

-- a part of a known form
abbrev pub form_meant : List class.Class → Part → Meaning
form_meant classes p gas l s go = replay (map mirror_class classes) gas p l s go

abbrev pub part_meant : List class.Class → part.Part → Meaning
part_meant classes p = form_meant classes (mirror_part p)

-- parts in order
abbrev pub all_meant : List class.Class → List part.Part → Meaning
all_meant classes ps gas l s go = replay_all (map mirror_class classes) gas (mirror_parts ps) l s go

-- a statement
abbrev pub plain_meant : List class.Class → stmt.Stmt → Meaning
plain_meant classes s = form_meant classes (code.Plain (mirror_stmt s) [])

-- the place of a step that gives no entry
abbrev pub pass_meant : ℕ → Meaning
pass_meant step gas l s go = unless (fault_at step s.node) far_fault l s (go l s)

-- a value that was kept, and is bound
abbrev pub bind_meant : ℕ → List ℕ → Meaning
bind_meant step name gas l s go = on_value (taken step s.node) l s (λ v s1. go (bound name v l) s1)

-- a value that both sides evaluate
abbrev pub both_meant : List class.Class → ℕ → List ℕ → expr.Expr → Meaning
both_meant classes step name e = form_meant classes (code.Both step 0 name (mirror_expr e))

-- a branch
abbrev pub branch_meant : List class.Class → ℕ → List part.Part → List part.Part → Meaning
branch_meant classes step a b = form_meant classes (code.Branch step (mirror_parts a) (mirror_parts b))

-- a turn, which begins with its row where rows are kept
abbrev pub turn_meant : List class.Class → Loop → Meaning
turn_meant classes t gas l s go = on_turn t.kept t.step t.name.now l s (λ l1 s1. all_meant classes t.body.now gas l1 s1 go)

-- turns over nodes, and the node behind them
abbrev pub turns_over : List class.Class → Loop → Nodes → Node → Meaning
turns_over classes t ns rest gas l s go =
    turns (λ n l1 events. turn_meant classes t gas l1 (record { events = events; node = n }) ended) ns rest l s.events go

-- the turns over the rows that stand first
abbrev pub rows_turned : List class.Class → Loop → Meaning
rows_turned classes t gas l s go = on_rows t.step s.node l s (λ ns rest. turns_over classes t ns rest gas l s go)

-- a loop over rows: its turns, and then the node's fault may be at its step
abbrev pub rows_meant : List class.Class → Loop → Meaning
rows_meant classes t gas l s go = rows_turned classes t gas l s (λ l1 s1. pass_meant t.step gas l1 s1 go)

-- Rows are open, whose nodes these are, of the node that is gone on with.
abbrev pub SeesRows : {W : Type 0} → sinks.Ghosts W → MutBor W → Device (List ℕ) → List Open → Nodes → ReplayWorld W → Seen → Type 0
SeesRows g out start below ns w s = SeesOpen g out start (AtRows ns ∷ AtNode s.node ∷ below) w s.events

-- .. of whose nodes some are left
abbrev pub SeesSomeRows : {W : Type 0} → sinks.Ghosts W → MutBor W → Device (List ℕ) → List Open → ReplayWorld W → Seen → Type 0
SeesSomeRows g out start below w s = (ns : Nodes) × SeesRows g out start below ns w s

-- What performing the turns over rows that are open ensures, of which there are so many: they did what they mean. The rows are
-- open still.
pub record PerformsTurns {W : Type 0} (g : sinks.Ghosts W) (classes : List class.Class) (t : Loop) (count : ℕ) (before : Local) (w : ReplayWorld W) (result : Result (Unit {0}) Early) (after : Local) (w' : ReplayWorld W) : Type 0 where
  pub fuel : after.fuel ≤ before.fuel
  pub depth : after.depth ≡ before.depth
  pub does : (gas : ℕ) → before.fuel ≤ gas → (out : MutBor W) (start : Device (List ℕ)) (below : List Open) (ns : Nodes) (s : Seen) → count_nodes ns ≡ count → SeesRows g out start below ns w s
      → Does g out start (SeesSomeRows g out start below) (turns_over classes t ns s.node gas before s) result after w'
