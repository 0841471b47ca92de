use Rattle.rb_flow.proofs.Expanded.{expanded_on}
use Rattle.std.proofs.Common.{◌∙◌}
use Rattle.rb_flow.proofs.levels.reach_all.Goals as goal

pub loop-place-preserved : goal.loop-place-preserved
loop-place-preserved c = record {
  reached = expanded_on c.args.writers.now c.args.frontier.now c.loop-place.place-index c.args.level _ _ c.loop-place-test.true c.in_ok-reach_after.ensures.reached ∙ c.loop-place.invariant.reached;
  serves = c.in_ok-reach_after.ensures.serves;
}
