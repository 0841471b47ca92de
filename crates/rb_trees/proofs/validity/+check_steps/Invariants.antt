use Rattle.std.proofs.Common.{◌≡◌, ◌++◌, take, drop}
use Rattle.rb_trees.specs.mirror.Scripts.{mirror_steps, mirror_script}
use Rattle.rb_trees.specs.Validity.{first, inputs_of, steps_numbers, steps_lets, steps_refusals}
use Rattle.rb_trees.specs.Scopes.{seen, bound}
use Rattle.rb_trees.proofs.validity.+check_steps.Given as goal

abbrev pub invariant-check_block-loop-i : goal.invariant-check_block-loop-i
invariant-check_block-loop-i l =
    first (steps_refusals (inputs_of (mirror_script l.script)) l.depth (seen l.scope ++ steps_numbers (mirror_steps (take l.i l.steps))) (bound l.scope ++ steps_lets (mirror_steps (take l.i l.steps))) (mirror_steps (drop l.i l.steps)))
    ≡ first (steps_refusals (inputs_of (mirror_script l.script)) l.depth (seen l.scope) (bound l.scope) (mirror_steps l.steps))
