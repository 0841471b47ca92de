-- What is shown on the way stays shown.
use Rattle.rb_law_client.proofs.Shown.{fronts}
use Rattle.rb_law_client.proofs.fronts_are_shown.Goals as goal

pub returns : goal.returns
returns c = fronts
