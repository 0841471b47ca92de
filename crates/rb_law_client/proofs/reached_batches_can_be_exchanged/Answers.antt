-- By the laws that the body names.
use Rattle.rb_law_client.proofs.Exchanged.{exchanged}
use Rattle.rb_law_client.proofs.reached_batches_can_be_exchanged.Goals as goal

pub returns : goal.returns
returns c = exchanged c.laws_below.ensures c.nodes_of_scripts_fit.ensures c.divided_scripts_can_be_sent.ensures
