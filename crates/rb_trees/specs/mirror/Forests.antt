-- The mirror of a forest: its nodes with their entries. The fault of a node stands as it is.
use Rattle.std.specs.Prelude.{List, [], ◌∷◌, Bool, Option}
use Rattle.rb_trees.specs.declared.values.Value as value
use Rattle.rb_trees.specs.declared.forests.NodeFault.{NodeFault}
use Rattle.rb_trees.specs.declared.forests.Node as node
use Rattle.rb_trees.specs.declared.forests.Entry as entry
use Rattle.rb_trees.specs.declared.forests.Entry.TheOpen.{Node-F, Entry-F}
use Rattle.rb_trees.specs.declared.forests.Entry.TheFolds.{fold-Node, fold-Entry}

mutual
  pub data Node : Type 0 where
    Holds : (entries : Entries) (fault : Option NodeFault) → Node

  pub data Entry : Type 0 where
    Value : (value : value.Value) → Entry
    Branch : (taken : Bool) (node : Node) → Entry
    Rows : (nodes : Nodes) → Entry

  pub data Entries : Type 0 where
    NoEntries : Entries
    MoreEntries : (first : Entry) (rest : Entries) → Entries

  pub data Nodes : Type 0 where
    NoNodes : Nodes
    MoreNodes : (first : Node) (rest : Nodes) → Nodes

abbrev pub entries_from : List Entry → Entries
entries_from [] = NoEntries
entries_from (e ∷ es) = MoreEntries e (entries_from es)

abbrev pub nodes_from : List Node → Nodes
nodes_from [] = NoNodes
nodes_from (n ∷ ns) = MoreNodes n (nodes_from ns)

abbrev pub entry_step : Entry-F Entry Node → Entry
entry_step (Entry-F.Value value) = Value value
entry_step (Entry-F.Branch taken node) = Branch taken node
entry_step (Entry-F.Rows nodes) = Rows (nodes_from nodes)

abbrev pub node_step : Node-F Entry Node → Node
node_step n = Holds (entries_from n.entries) n.fault

-- a node in the mirror
unfoldable pub mirror_node : node.Node → Node
mirror_node n = fold-Node Entry Node entry_step node_step n

-- an entry in the mirror
unfoldable pub mirror_entry : entry.Entry → Entry
mirror_entry e = fold-Entry Entry Node entry_step node_step e

abbrev pub mirror_entries : List entry.Entry → Entries
mirror_entries [] = NoEntries
mirror_entries (e ∷ es) = MoreEntries (mirror_entry e) (mirror_entries es)

abbrev pub mirror_nodes : List node.Node → Nodes
mirror_nodes [] = NoNodes
mirror_nodes (n ∷ ns) = MoreNodes (mirror_node n) (mirror_nodes ns)
