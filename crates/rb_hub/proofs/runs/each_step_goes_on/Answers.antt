use Rattle.rb_hub.proofs.Onward.{each_goes_on}
use Rattle.rb_hub.proofs.runs.each_step_goes_on.Goals as goal

pub returns : goal.returns
returns g c = each_goes_on g.A.Answers c.streams_are_read.ensures.streams c.streams_are_read.ensures.fronts
