-- All code of batches.
use Rattle.rb_law_types.proofs.Bodies.{batches_keep}
use Rattle.rb_law_types.proofs.code.batch_code_keeps_types.Goals as goal

pub returns : goal.returns
returns c = batches_keep
