-- Walks of the code over a forest in its bytes, as walks of the definition. What is open tells which entries are left of the
-- innermost node, and its fault; the code keeps the rest.
use Rattle.std.specs.Prelude.{◌≡◌, ℕ, List, ◌∷◌, Bool, cond, Option, None, Result, Ok, Err}
use Rattle.rb_trees.specs.declared.forests.NodeFault.{NodeFault}
use Rattle.rb_trees.specs.declared.remainders.Part as part
use Rattle.rb_trees.specs.mirror.Forests.{Node, Holds, Entries, Nodes, MoreNodes}
use Rattle.rb_trees.specs.mirror.Remainders.{mirror_part, mirror_parts}
use Rattle.rb_trees.specs.Outcome.{◌>>=◌}
use Rattle.rb_meaning_bytes.specs.Fits.{Walk, step_of, begun, raised, with_spare, leaves, row_read, part_read, parts_read, faults_at, is_counted}
use Rattle.rb_meaning_bytes.specs.formats.ForestBytes.{count_nodes}
use Rattle.rb_wire_forest.specs.Opens.{Open, AtNode, AtRows}
use Rattle.rb_wire_forest.specs.Walks.{loop_read, list_read}
use Rattle.rb_wire_forest.specs.declared.forest_walk.Progress.{Progress}

-- the walk of a node of which these entries are left, and which has this fault
abbrev pub walk_of : Progress → Entries → Option NodeFault → Walk
walk_of p es f = record { left = es; fault = cond p.raised None (step_of f); stopped = p.stopped; spare = p.spare }

-- The walk of a node begins, with what is spare before it.
abbrev pub Begins : Bool → Progress → Type 0
Begins spare p = (es : Entries) (f : Option NodeFault) → walk_of p es f ≡ begun (Holds es f) spare

-- The node's fault is raised.
abbrev pub Raises : Progress → Progress → Type 0
Raises old new = (es : Entries) (f : Option NodeFault) → walk_of new es f ≡ raised (walk_of old es f)

-- Something is left over.
abbrev pub Spares : Progress → Progress → Type 0
Spares old new = (es : Entries) (f : Option NodeFault) → walk_of new es f ≡ with_spare (walk_of old es f)

-- Where the innermost is a node, this is so of the entries that are left of it, and of its fault.
abbrev pub InNode : List Open → (Entries → Option NodeFault → Type 0) → Type 0
InNode now So = (es : Entries) (f : Option NodeFault) (around : List Open) → now ≡ AtNode (Holds es f) ∷ around → So es f

-- Where the innermost is a Rows of a node, this is so of its nodes, and of the entries that are left of the node and its fault.
abbrev pub InRows : List Open → (Nodes → Entries → Option NodeFault → Type 0) → Type 0
InRows now So = (ns : Nodes) (es : Entries) (f : Option NodeFault) (around : List Open) → now ≡ AtRows ns ∷ AtNode (Holds es f) ∷ around → So ns es f

-- What the definition reads was read: the walk goes on in the same node, or a step doesn't fit.
abbrev pub Reaches : Result Walk ℕ → Option NodeFault → List Open → Result Progress ℕ → List Open → Type 0
Reaches meant f around (Ok p) new = (es : Entries) × (new ≡ AtNode (Holds es f) ∷ around) × (meant ≡ Ok (walk_of p es f))
Reaches meant f around (Err step) new = meant ≡ Err step

-- The innermost node is walked as the definition walks it.
abbrev pub Walks : (Walk → Result Walk ℕ) → List Open → Progress → Result Progress ℕ → List Open → Type 0
Walks read old from result new =
    (es : Entries) (f : Option NodeFault) (around : List Open) → old ≡ AtNode (Holds es f) ∷ around → Reaches (read (walk_of from es f)) f around result new

-- The part was read in the innermost node.
abbrev pub ReadsPart : List ℕ → part.Part → List Open → Progress → Result Progress ℕ → List Open → Type 0
ReadsPart lengths p old from result new = Walks (part_read lengths (mirror_part p)) old from result new

-- The parts were read in the innermost node, up to a fault.
abbrev pub ReadsParts : List ℕ → List part.Part → List Open → Progress → Result Progress ℕ → List Open → Type 0
ReadsParts lengths parts old from result new = Walks (parts_read lengths (mirror_parts parts)) old from result new

-- how a walk goes on behind a node within it, in which the walk ended so
abbrev pub after_node : Progress → Walk → Progress
after_node outer w = record { raised = outer.raised; stopped = w.stopped; spare = leaves w }

-- What is meant was answered, and the innermost is closed; or a step doesn't fit.
abbrev pub Closes : Result Progress ℕ → List Open → Result Progress ℕ → List Open → Type 0
Closes meant around (Ok p) new = (meant ≡ Ok p) × (new ≡ around)
Closes meant around (Err step) new = meant ≡ Err step

-- The parts were read in the innermost node, which is closed.
abbrev pub ReadsNode : List ℕ → List part.Part → List Open → (inner outer : Progress) → Result Progress ℕ → List Open → Type 0
ReadsNode lengths parts old inner outer result new =
    (es : Entries) (f : Option NodeFault) (o : Open) (os : List Open) → old ≡ AtNode (Holds es f) ∷ o ∷ os
    → Closes (parts_read lengths (mirror_parts parts) (walk_of inner es f) >>= λ w. Ok (after_node outer w)) (o ∷ os) result new

-- a turn in this node: the row where rows are kept, and the parts
abbrev pub turn_read : List ℕ → (step kind : ℕ) → List part.Part → Node → Progress → Result Progress ℕ
turn_read lengths step kind body n from =
    row_read step kind (begun n from.spare) >>= λ row. parts_read lengths (mirror_parts body) row >>= λ w. Ok (after_node from w)

-- The next turn of the innermost Rows was read.
abbrev pub ReadsTurn : List ℕ → (step kind : ℕ) → List part.Part → List Open → Progress → Result Progress ℕ → List Open → Type 0
ReadsTurn lengths step kind body old from result new =
    (n : Node) (ns : Nodes) (os : List Open) → old ≡ AtRows (MoreNodes n ns) ∷ os → Closes (turn_read lengths step kind body n from) (AtRows ns ∷ os) result new

-- The turns of the innermost Rows were read, and it is closed.
abbrev pub ReadsTurns : List ℕ → (step kind : ℕ) → List part.Part → ℕ → List Open → Progress → Result Progress ℕ → List Open → Type 0
ReadsTurns lengths step kind body turns old from result new =
    (ns : Nodes) (es : Entries) (f : Option NodeFault) (around : List Open) → count_nodes ns ≡ turns → old ≡ AtRows ns ∷ AtNode (Holds es f) ∷ around
    → Reaches (loop_read lengths step kind body ns (walk_of from es f)) f around result new

-- This tells whether the turns of the innermost Rows, which are so many, are those of a list with so many items.
abbrev pub TellsCounted : (step turns items : ℕ) → List Open → Progress → Bool → Type 0
TellsCounted step turns items now from told =
    InRows now (λ ns es f. count_nodes ns ≡ turns → told ≡ is_counted items ns (faults_at step (walk_of from es f)))

-- The turns of the innermost Rows were read, which go over a list of so many items, and it is closed.
abbrev pub ReadsList : List ℕ → (step items : ℕ) → List part.Part → ℕ → List Open → Progress → Result Progress ℕ → List Open → Type 0
ReadsList lengths step items body turns old from result new =
    (ns : Nodes) (es : Entries) (f : Option NodeFault) (around : List Open) → count_nodes ns ≡ turns → old ≡ AtRows ns ∷ AtNode (Holds es f) ∷ around
    → Reaches (list_read lengths step items body ns (walk_of from es f)) f around result new
