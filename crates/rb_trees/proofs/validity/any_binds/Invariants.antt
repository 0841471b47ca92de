use Rattle.std.proofs.Common.{◌≡◌, drop}
use Rattle.rb_trees.specs.mirror.Scripts.{mirror_steps}
use Rattle.rb_trees.specs.Validity.{has, steps_lets}
use Rattle.rb_trees.proofs.validity.any_binds.Given as goal

abbrev pub invariant-loop-step : goal.invariant-loop-step
invariant-loop-step l = has l.var (steps_lets (mirror_steps (drop l.step-index l.steps))) ≡ has l.var (steps_lets (mirror_steps l.steps))
