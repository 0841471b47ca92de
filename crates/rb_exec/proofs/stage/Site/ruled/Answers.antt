use Rattle.rb_exec.proofs.stage.Site.ruled.Goals as goal

pub returns : goal.returns
returns g c = record { placed = c.at_place.result; at_place = c.at_place.ensures; at_step = c.at_step.ensures }
