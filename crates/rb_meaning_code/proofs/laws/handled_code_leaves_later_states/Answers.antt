-- What all code leaves under a handler.
use Rattle.rb_meaning_code.proofs.OfCode.{handled_later}
use Rattle.rb_meaning_code.proofs.laws.handled_code_leaves_later_states.Goals as goal

pub returns : goal.returns
returns t c = handled_later
