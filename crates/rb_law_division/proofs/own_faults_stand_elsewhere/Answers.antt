-- By the laws that the body names.
use Rattle.rb_law_division.proofs.OwnFaults.{own_elsewhere}
use Rattle.rb_law_division.proofs.own_faults_stand_elsewhere.Goals as goal

pub returns : goal.returns
returns c = own_elsewhere c.each_expression_has_its_mark.ensures.there c.each_expression_has_its_mark.ensures.elsewhere c.remote_expressions_stand_in_the_script.ensures
