-- What a server answers, as JSON values.
use Rattle.std.specs.Prelude.{ℕ, codes, Option, None, Some}
use Rattle.rb_trees.specs.declared.forests.NodeFault.{NodeFault}
use Rattle.rb_trees.specs.mirror.Forests as tree
use Rattle.rb_trees.specs.mirror.Forests.{Node, Entry, Entries, Nodes}
use Rattle.serde_json.specs.Data.{Data, null, boolean, string, array, object, Items, no_items, item, no_members, member}
use Rattle.rb_json.specs.Writes.{numeral, tagged, primitive_data}

-- `null`, or the step, the position, the code and the text of a fault
abbrev pub fault_data : Option NodeFault → Data
fault_data None = null
fault_data (Some f) = array (item (numeral f.step) (item (numeral f.at) (item (numeral f.fault.code) (item (string f.fault.text) no_items))))

abbrev mutual
  pub node_data : Node → Data
  node_data (tree.Holds es f) = object (member (codes "entries") (array (entries_data es)) (member (codes "fault") (fault_data f) no_members))

  pub entry_data : Entry → Data
  entry_data (tree.Value v) = tagged (codes "value") (item (primitive_data v) no_items)
  entry_data (tree.Branch taken n) = tagged (codes "branch") (item (boolean taken) (item (node_data n) no_items))
  entry_data (tree.Rows ns) = tagged (codes "rows") (item (array (nodes_data ns)) no_items)

  pub entries_data : Entries → Items
  entries_data tree.NoEntries = no_items
  entries_data (tree.MoreEntries e es) = item (entry_data e) (entries_data es)

  pub nodes_data : Nodes → Items
  nodes_data tree.NoNodes = no_items
  nodes_data (tree.MoreNodes n ns) = item (node_data n) (nodes_data ns)

-- the number of a refusal and its place
abbrev pub refusal_data : ℕ → ℕ → Data
refusal_data number at = object (member (codes "refusal") (array (item (numeral number) (item (numeral at) no_items))) no_members)
