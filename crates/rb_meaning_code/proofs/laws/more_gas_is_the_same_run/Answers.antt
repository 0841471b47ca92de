-- All code within two gases.
use Rattle.rb_meaning_code.proofs.OfCode.{same_within}
use Rattle.rb_meaning_code.proofs.laws.more_gas_is_the_same_run.Goals as goal

pub returns : goal.returns
returns c = same_within
