use Rattle.std.proofs.Common.{◌≡◌, ◌+◌, ◌<◌, ◌^◌, drop}
use Rattle.rb_trees.specs.mirror.Scripts.{mirror_steps}
use Rattle.rb_trees.specs.CodeSize.{steps_size, block_size, capped}
use Rattle.rb_trees.proofs.sizes.+size_steps.Given as goal

abbrev pub invariant-size_of_block-loop-step : goal.invariant-size_of_block-loop-step
invariant-size_of_block-loop-step l =
    (capped (l.total + steps_size (mirror_steps (drop l.step-index l.steps))) ≡ capped (block_size (mirror_steps l.steps))) × (l.total < 2 ^ 64)
