-- By the laws that the body names.
use Rattle.rb_law_client.proofs.Divided.{dividing_keeps}
use Rattle.rb_law_client.proofs.dividing_a_batch_keeps_its_meaning.Goals as goal

pub returns : goal.returns
returns c = dividing_keeps c.laws_below.ensures
