-- By the laws that the body names.
use Rattle.rb_law_client.proofs.Coming.{come_as_far}
use Rattle.rb_law_client.proofs.programs_come_as_far_as_clients.Goals as goal

pub returns : goal.returns
returns c = come_as_far c.laws_below.ensures
