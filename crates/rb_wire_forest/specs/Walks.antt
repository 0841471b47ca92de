-- Walks of the code as walks of the definition.
use Rattle.std.specs.Prelude.{ℕ, Bool, List, Option, Some, Result, Ok}
use Rattle.std.specs.Borrow.{Bor}
use Rattle.rb_trees.specs.declared.forests.Entry as entry
use Rattle.rb_trees.specs.declared.forests.Node as node
use Rattle.rb_trees.specs.mirror.Forests.{Node, Nodes, Entries, mirror_node, mirror_nodes, mirror_entries}
use Rattle.rb_trees.specs.declared.remainders.Part as part
use Rattle.rb_trees.specs.mirror.Remainders.{mirror_parts}
use Rattle.rb_trees.specs.Outcome.{◌>>=◌}
use Rattle.rb_meaning_bytes.specs.Fits.{Walk, begun, behind, parts_read, turns_read, turns_done, counted, no_kind}
use Rattle.rb_wire_forest.specs.declared.walk.Walk as code

abbrev pub seen : code.Walk → Walk
seen w = record { left = mirror_entries w.left.now; fault = w.fault; stopped = w.stopped; spare = w.spare }

-- An error is the step that doesn't fit.
abbrev pub step_told : ℕ → Option ℕ
step_told step = Some step

abbrev pub seen_branch : Bool × Bor node.Node × Bor (List entry.Entry) → Bool × Node × Entries
seen_branch x = (x.0, mirror_node x.1.now, mirror_entries x.2.now)

abbrev pub seen_rows : Bor (List node.Node) × Bor (List entry.Entry) → Nodes × Entries
seen_rows x = (mirror_nodes x.0.now, mirror_entries x.1.now)

-- a branch with this node, in which the parts are read, and with these entries after it
abbrev pub branch_walked : List ℕ → List part.Part → node.Node → List entry.Entry → Walk → Result Walk ℕ
branch_walked lengths parts n rest w =
    parts_read lengths (mirror_parts parts) (begun (mirror_node n) w.spare) >>= λ inner. Ok (behind w (mirror_entries rest) inner)

-- a loop with this body and these turns, where the lists of inputs have these lengths
abbrev pub loop_read : List ℕ → (step kind : ℕ) → List part.Part → Nodes → Walk → Result Walk ℕ
loop_read lengths step kind body turns w =
    turns_read step kind (λ row. parts_read lengths (mirror_parts body) row) turns w >>= λ after. turns_done step after

-- .. as the code has the turns
abbrev pub turns_walked : List ℕ → (step kind : ℕ) → List part.Part → List node.Node → Walk → Result Walk ℕ
turns_walked lengths step kind body turns w = loop_read lengths step kind body (mirror_nodes turns) w

-- a loop over a list of so many items, with this body and these turns
abbrev pub list_read : List ℕ → (step items : ℕ) → List part.Part → Nodes → Walk → Result Walk ℕ
list_read lengths step items body turns w = counted step items turns w (loop_read lengths step no_kind body turns w)

-- .. as the code has the turns
abbrev pub list_walked : List ℕ → (step items : ℕ) → List part.Part → List node.Node → Walk → Result Walk ℕ
list_walked lengths step items body turns w = list_read lengths step items body (mirror_nodes turns) w
