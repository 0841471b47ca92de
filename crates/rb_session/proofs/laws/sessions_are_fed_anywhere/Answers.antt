use Rattle.rb_session.proofs.Fed.{goes_on}
use Rattle.rb_session.proofs.laws.sessions_are_fed_anywhere.Goals as goal

pub returns : goal.returns
returns c = goes_on
