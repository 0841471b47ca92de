-- What the condition replies, at the step.
use Rattle.rb_exec.proofs.stage.Site.condition.Goals as goal

pub returns : goal.returns
returns c = record { outcome = c.condition_of.result; replied = c.condition_of.ensures; so = c.at_step.ensures }
