use Rattle.std.proofs.Common.{◌≡◌, ◌++◌, drop}
use Rattle.rb_trees.specs.mirror.Scripts.{mirror_steps, mirror_script}
use Rattle.rb_trees.specs.Validity.{first, inputs_of, steps_numbers, steps_lets, steps_refusals}
use Rattle.rb_wire_script.proofs.checking.+check_steps.Given as goal

abbrev pub invariant-check_steps-loop-step : goal.invariant-check_steps-loop-step
invariant-check_steps-loop-step l =
    (first (steps_refusals (inputs_of (mirror_script l.script)) l.depth l.seen l.bound (mirror_steps (drop l.step-index l.steps))) ≡ first (steps_refusals (inputs_of (mirror_script l.script)) l.depth l.fn.seen l.fn.bound (mirror_steps l.steps)))
    × (l.seen ++ steps_numbers (mirror_steps (drop l.step-index l.steps)) ≡ l.fn.seen ++ steps_numbers (mirror_steps l.steps))
    × (l.bound ++ steps_lets (mirror_steps (drop l.step-index l.steps)) ≡ l.fn.bound ++ steps_lets (mirror_steps l.steps))
