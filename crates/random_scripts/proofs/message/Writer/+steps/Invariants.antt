use Rattle.std.proofs.Common.{◌+◌, ◌*◌}
use Rattle.random_scripts.proofs.message.Writer.+steps.Given as goal

abbrev pub decreases-block : goal.decreases-block
decreases-block l = 4 * l.depth

abbrev pub decreases-if_step : goal.decreases-if_step
decreases-if_step l = 4 * l.depth + 1

abbrev pub decreases-each_step : goal.decreases-each_step
decreases-each_step l = 4 * l.depth + 2

abbrev pub decreases-step : goal.decreases-step
decreases-step l = 4 * l.depth + 3

abbrev pub decreases-binding_block : goal.decreases-binding_block
decreases-binding_block l = 4 * l.depth + 1

abbrev pub decreases-over_step : goal.decreases-over_step
decreases-over_step l = 4 * l.depth + 2
