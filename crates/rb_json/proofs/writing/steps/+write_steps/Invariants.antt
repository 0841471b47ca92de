use Rattle.std.proofs.Common.{◌≡◌, drop}
use Rattle.rb_trees.specs.mirror.Scripts.{mirror_steps}
use Rattle.rb_json.specs.Writes.{steps_data}
use Rattle.rb_json.proofs.Arrays.{before}
use Rattle.rb_json.proofs.writing.steps.+write_steps.Given as goal

abbrev pub invariant-steps-loop-item : goal.invariant-steps-loop-item
invariant-steps-loop-item l = before l.list.items (steps_data (mirror_steps (drop l.item-index l.steps))) ≡ steps_data (mirror_steps l.steps)
