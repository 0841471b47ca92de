use Rattle.std.proofs.Common.{◌≡◌, ◌+◌, ◌*◌, ◌-◌}
use Rattle.rb_meaning_bytes.specs.formats.Formats.{times}
use Rattle.rb_meaning_bytes.specs.formats.Reading.{read}
use Rattle.rb_meaning_bytes.specs.formats.Forests.{node, entry}
use Rattle.rb_wire_forest.specs.Passed.{behind}
use Rattle.rb_wire_forest.proofs.skips.+skips.Given as goal

abbrev pub decreases-skip_node : goal.decreases-skip_node
decreases-skip_node l = 5 * l.left

abbrev pub decreases-skip_turns : goal.decreases-skip_turns
decreases-skip_turns l = 5 * l.left + 1

abbrev pub decreases-skip_entry : goal.decreases-skip_entry
decreases-skip_entry l = 5 * l.left + 2

abbrev pub decreases-skip_entries : goal.decreases-skip_entries
decreases-skip_entries l = 5 * l.left + 3

abbrev pub decreases-skip_left : goal.decreases-skip_left
decreases-skip_left l = 5 * l.left + 4

abbrev pub invariant-skip_entries-loop : goal.invariant-skip_entries-loop
invariant-skip_entries-loop l = behind (read (times (l.count - l.counter) (entry l.version (node l.version l.left))) l.rest) ≡ behind (read (times l.count (entry l.version (node l.version l.left))) l.bytes)

abbrev pub invariant-skip_turns-loop : goal.invariant-skip_turns-loop
invariant-skip_turns-loop l = behind (read (times (l.count - l.counter) (node l.version l.left)) l.rest) ≡ behind (read (times l.count (node l.version l.left)) l.bytes)
