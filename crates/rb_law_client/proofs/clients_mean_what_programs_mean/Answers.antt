-- By the laws that the body names.
use Rattle.rb_law_client.proofs.Clients.{clients_mean}
use Rattle.rb_law_client.proofs.clients_mean_what_programs_mean.Goals as goal

pub returns : goal.returns
returns c = clients_mean c.laws_below.ensures
