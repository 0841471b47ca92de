-- By the laws that the body names.
use Rattle.rb_law_client.proofs.Fitting.{pieces_keep}
use Rattle.rb_law_client.proofs.accepted_code_keeps_types.Goals as goal

pub returns : goal.returns
returns c = pieces_keep c.laws_below.ensures
