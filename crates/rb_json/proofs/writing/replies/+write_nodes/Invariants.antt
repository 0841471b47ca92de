use Rattle.std.proofs.Common.{◌≡◌, drop}
use Rattle.rb_trees.specs.mirror.Forests.{mirror_entries, mirror_nodes}
use Rattle.rb_json.specs.Replies.{entries_data, nodes_data}
use Rattle.rb_json.proofs.Arrays.{before}
use Rattle.rb_json.proofs.writing.replies.+write_nodes.Given as goal

abbrev pub invariant-entries-loop-item : goal.invariant-entries-loop-item
invariant-entries-loop-item l = before l.list.items (entries_data (mirror_entries (drop l.item-index l.entries))) ≡ entries_data (mirror_entries l.entries)

abbrev pub invariant-nodes-loop-item : goal.invariant-nodes-loop-item
invariant-nodes-loop-item l = before l.list.items (nodes_data (mirror_nodes (drop l.item-index l.nodes))) ≡ nodes_data (mirror_nodes l.nodes)
