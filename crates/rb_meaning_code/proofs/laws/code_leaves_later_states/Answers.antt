-- What all code leaves.
use Rattle.rb_meaning_code.proofs.OfCode.{code_leaves_later}
use Rattle.rb_meaning_code.proofs.laws.code_leaves_later_states.Goals as goal

pub returns : goal.returns
returns c = code_leaves_later
