use Rattle.std.proofs.Common.{◌≡◌, ◌+◌, ◌*◌, ◌-◌, map}
use Rattle.rb_trees.specs.mirror.Scripts.{mirror_step}
use Rattle.rb_wire_script.specs.Parts.{reads, steps}
use Rattle.rb_wire_script.proofs.Stages.{with_front}
use Rattle.rb_wire_script.proofs.steps.+steps.Given as goal

abbrev pub decreases-block : goal.decreases-block
decreases-block l = 4 * l.left

abbrev pub decreases-if_step : goal.decreases-if_step
decreases-if_step l = 4 * l.left + 1

abbrev pub decreases-each_step : goal.decreases-each_step
decreases-each_step l = 4 * l.left + 1

abbrev pub decreases-over_step : goal.decreases-over_step
decreases-over_step l = 4 * l.left + 1

abbrev pub decreases-step : goal.decreases-step
decreases-step l = 4 * l.left + 2

abbrev pub decreases-steps : goal.decreases-steps
decreases-steps l = 4 * l.left + 3

abbrev pub invariant-steps-loop : goal.invariant-steps-loop
invariant-steps-loop l = with_front (map mirror_step l.items) (reads (steps l.pool l.left (l.count - l.counter)) l.place) ≡ reads (steps l.pool l.left l.count) l.from
