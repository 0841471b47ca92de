-- All code within two gases, under a handler.
use Rattle.rb_meaning_code.proofs.OfCode.{handled_the_same}
use Rattle.rb_meaning_code.proofs.laws.more_gas_is_handled_the_same.Goals as goal

pub returns : goal.returns
returns t c = handled_the_same
