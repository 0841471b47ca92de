-- By the laws that the body names.
use Rattle.rb_law_client.proofs.Taken.{inputs_have_items}
use Rattle.rb_law_client.proofs.inputs_have_the_items_of_their_batches.Goals as goal

pub returns : goal.returns
returns c = inputs_have_items c.laws_below.ensures
