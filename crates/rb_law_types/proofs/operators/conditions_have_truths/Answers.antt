-- A condition's truth.
use Rattle.rb_law_types.proofs.Results.{conditions_hold}
use Rattle.rb_law_types.proofs.operators.conditions_have_truths.Goals as goal

pub returns : goal.returns
returns c = conditions_hold
