use Rattle.std.proofs.Common.{◌≡◌, drop}
use Rattle.rb_trees.specs.mirror.Scripts.{mirror_steps}
use Rattle.rb_trees.specs.Validity.{has, steps_numbers}
use Rattle.rb_trees.proofs.validity.+numbers.Given as goal

abbrev pub invariant-any_numbered-loop-step : goal.invariant-any_numbered-loop-step
invariant-any_numbered-loop-step l = has l.id (steps_numbers (mirror_steps (drop l.step-index l.steps))) ≡ has l.id (steps_numbers (mirror_steps l.steps))
