-- What the expression replies, at the step.
use Rattle.rb_exec.proofs.stage.Site.value.Goals as goal

pub returns : goal.returns
returns c = record { outcome = c.value_of.result; replied = c.value_of.ensures; so = c.at_step.ensures }
