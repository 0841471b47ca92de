use Rattle.std.proofs.Common.{◌≡◌, ◌++◌, drop}
use Rattle.rb_trees.specs.mirror.Forests.{mirror_entries, mirror_nodes}
use Rattle.rb_meaning_bytes.specs.formats.ForestBytes.{entries_bytes, nodes_bytes}
use Rattle.rb_wire_fields.specs.Buffers.{Keeps}
use Rattle.rb_wire_forest.proofs.writing.+put_nodes.Given as goal

abbrev pub invariant-put_entries-loop-entry : goal.invariant-put_entries-loop-entry
invariant-put_entries-loop-entry l = (l.into.items ++ entries_bytes l.version (mirror_entries (drop l.entry-index l.entries)) ≡ l.fn.into.items ++ entries_bytes l.version (mirror_entries l.entries)) × Keeps l.fn.into.items l.into.items

abbrev pub invariant-put_turns-loop-turn : goal.invariant-put_turns-loop-turn
invariant-put_turns-loop-turn l = (l.into.items ++ nodes_bytes l.version (mirror_nodes (drop l.turn-index l.turns)) ≡ l.fn.into.items ++ nodes_bytes l.version (mirror_nodes l.turns)) × Keeps l.fn.into.items l.into.items
