use Rattle.std.proofs.Common.{◌∙◌}
use Rattle.rb_split.proofs.Divided.{split_so}
use Rattle.rb_split.proofs.splits.split.Goals as goal

pub returns-clause-divided : goal.returns-clause-divided
returns-clause-divided c = λ b at.
    split_so c.divide.result c.args.admitted.now.0 c.in_ok-x.x c.in_ok-batches.batches c.as_slice.result.now c.args.batch c.index-as_slice-batch.result b
    (c.in_ok-x.ensures ∙ c.typed.ensures.same) c.in_ok-batches.ensures c.as_slice.ensures c.index-as_slice-batch.is c.requires at c.divide.ensures.divided
