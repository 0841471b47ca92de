use Rattle.std.proofs.Common.{◌+◌, ◌*◌}
use Rattle.rb_wire_forest.proofs.early.+early.Given as goal

abbrev pub decreases-node_early : goal.decreases-node_early
decreases-node_early l = 4 * l.left

abbrev pub decreases-turns_early : goal.decreases-turns_early
decreases-turns_early l = 4 * l.left + 1

abbrev pub decreases-entry_early : goal.decreases-entry_early
decreases-entry_early l = 4 * l.left + 2

abbrev pub decreases-entries_early : goal.decreases-entries_early
decreases-entries_early l = 4 * l.left + 3
