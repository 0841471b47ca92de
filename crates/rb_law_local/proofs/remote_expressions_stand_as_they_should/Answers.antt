-- By the refusals, case by case.
use Rattle.rb_law_local.proofs.Standing.{admitted_are_parted}
use Rattle.rb_law_local.proofs.remote_expressions_stand_as_they_should.Goals as goal

pub returns : goal.returns
returns c = admitted_are_parted
