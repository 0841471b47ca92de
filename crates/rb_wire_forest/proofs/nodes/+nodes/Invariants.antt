use Rattle.std.proofs.Common.{◌≡◌, ◌+◌, ◌*◌, ◌-◌, map}
use Rattle.rb_trees.specs.mirror.Forests.{mirror_node, mirror_entry}
use Rattle.rb_meaning_bytes.specs.formats.Formats.{times}
use Rattle.rb_meaning_bytes.specs.formats.Reading.{read}
use Rattle.rb_meaning_bytes.specs.formats.Forests.{node, entry}
use Rattle.rb_meaning_bytes.proofs.formats.Steps.{with_front}
use Rattle.rb_wire_forest.proofs.nodes.+nodes.Given as goal

abbrev pub decreases-node : goal.decreases-node
decreases-node l = 4 * l.left

abbrev pub decreases-turns : goal.decreases-turns
decreases-turns l = 4 * l.left + 1

abbrev pub decreases-entry : goal.decreases-entry
decreases-entry l = 4 * l.left + 2

abbrev pub decreases-entries : goal.decreases-entries
decreases-entries l = 4 * l.left + 3

abbrev pub invariant-entries-loop : goal.invariant-entries-loop
invariant-entries-loop l = with_front (map mirror_entry l.items) (read (times (l.count - l.counter) (entry l.version (node l.version l.left))) l.rest) ≡ read (times l.count (entry l.version (node l.version l.left))) l.bytes

abbrev pub invariant-turns-loop : goal.invariant-turns-loop
invariant-turns-loop l = with_front (map mirror_node l.items) (read (times (l.count - l.counter) (node l.version l.left)) l.rest) ≡ read (times l.count (node l.version l.left)) l.bytes
