-- By the laws that the body names.
use Rattle.rb_law_client.proofs.Fitting.{none_caught}
use Rattle.rb_law_client.proofs.kind_is_never_caught.Goals as goal

pub returns : goal.returns
returns c = none_caught c.laws_below.ensures
