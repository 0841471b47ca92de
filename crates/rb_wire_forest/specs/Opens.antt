-- What is open in a forest that is walked, as its bytes tell it.
use Rattle.std.specs.Prelude.{ℕ, zero, suc, ◌-◌, List, [], ◌∷◌, length, Option, None, Some, Ok, Err, option_map, slice_index_or}
use Rattle.rb_trees.specs.declared.versions.Version.{Version}
use Rattle.rb_trees.specs.mirror.Forests.{Node, Holds, Nodes, entries_from, nodes_from}
use Rattle.rb_meaning_bytes.specs.formats.Formats.{Format, Done, ◌>>=◌, times}
use Rattle.rb_meaning_bytes.specs.formats.Reading.{Read, read}
use Rattle.rb_meaning_bytes.specs.formats.Forests.{node, entry, end, most_nodes}
use Rattle.rb_wire_forest.specs.declared.frames.Frame.{Frame}

-- What is open: a node with the entries that are left and its fault, or a Rows with the nodes that are left.
pub data Open : Type 0 where
  AtNode : (left : Node) → Open
  AtRows : (left : Nodes) → Open

-- what is left of a node, of which so many entries are left, with so many nodes within each other below it
unfoldable pub node_left : Version → ℕ → ℕ → Format Node
node_left version n count = do
  entries ← times count (entry version (node version n))
  ending ← end version
  Done (Holds (entries_from entries) ending)

-- What the bytes that are left tell of what is open, the innermost first; None where they don't spell it.
abbrev pub Below : Type 0
Below = List ℕ → Option (List Open)

abbrev pub on_read : {A B : Type 0} → Read A → (A → List ℕ → Option B) → Option B
on_read (Ok x) f = f x.0 x.1
on_read (Err e) f = None

unfoldable pub node_open : Version → ℕ → ℕ → Below → Below
node_open version n count below bytes = on_read (read (node_left version n count) bytes) (λ left rest. option_map (λ os. AtNode left ∷ os) (below rest))

unfoldable pub rows_open : Version → ℕ → ℕ → Below → Below
rows_open version n count below bytes = on_read (read (times count (node version n)) bytes) (λ turns rest. option_map (λ os. AtRows (nodes_from turns) ∷ os) (below rest))

abbrev pub turns_open : Version → ℕ → Option ℕ → Below → Below
turns_open version n None below bytes = below bytes
turns_open version n (Some count) below bytes = rows_open version n count below bytes

abbrev pub all_closed : Below
all_closed [] = Some []
all_closed (b ∷ rest) = None

-- how many nodes may be within each other below a node, of which so many enclose it
abbrev pub levels_below : ℕ → ℕ
levels_below enclosing = most_nodes - suc enclosing

-- frames, the innermost first: the turns that are left of the Rows that is open in a node, and the entries that are left of the node
unfoldable pub all_open : Version → List Frame → Below
all_open version [] bytes = all_closed bytes
all_open version (f ∷ fs) bytes = turns_open version (levels_below (length fs)) f.turns (node_open version (levels_below (length fs)) f.entries (all_open version fs)) bytes

abbrev pub no_frame : Frame
no_frame = record { entries = 0; turns = None }

-- the first so many frames, the last of them first
unfoldable pub frames_from : List Frame → ℕ → List Frame
frames_from all zero = []
frames_from all (suc d) = slice_index_or all d no_frame ∷ frames_from all d
