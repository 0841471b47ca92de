-- What is judged has one outcome, and so have the rules.
use Rattle.rb_fitting_rules.proofs.Judged.{outcome}
use Rattle.rb_fitting_rules.proofs.one_outcome.Goals as goal

pub returns : goal.returns
returns c = λ lengths n ps. outcome lengths n ps
