use Rattle.rb_meaning_bytes.proofs.formats.StepWeights.{script_weighed}
use Rattle.rb_meaning_bytes.proofs.laws.each_step_has_a_byte.Goals as goal

pub returns : goal.returns
returns c = script_weighed
