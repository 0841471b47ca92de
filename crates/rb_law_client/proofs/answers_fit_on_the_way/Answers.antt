-- By the laws that the body names.
use Rattle.rb_law_client.proofs.Fitting.{answers_fit}
use Rattle.rb_law_client.proofs.answers_fit_on_the_way.Goals as goal

pub returns : goal.returns
returns c = answers_fit c.laws_below.ensures
