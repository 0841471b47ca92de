use Rattle.std.proofs.Common.{refl, ◌∙◌}
use Rattle.rb_split.proofs.Collected.{collected_so}
use Rattle.rb_split.proofs.batches.batches_of.Goals as goal

pub returns : goal.returns
returns c = collected_so c.collect_batches.result c.args.x.now c.program.result.now c.args.x.now refl (c.program.ensures.same ∙ c.typed.ensures) c.collect_batches.ensures
