-- By induction on the code.
use Rattle.rb_law_local.proofs.Locally.{local_code_does_the_same}
use Rattle.rb_law_local.proofs.local_code_does_the_same.Goals as goal

pub returns : goal.returns
returns c = local_code_does_the_same
