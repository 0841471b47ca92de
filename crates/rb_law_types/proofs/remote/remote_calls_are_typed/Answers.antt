-- All values and all calls.
use Rattle.rb_law_types.proofs.FarValues.{fitting_are_bounded, remote_calls_give_far}
use Rattle.rb_law_types.proofs.remote.remote_calls_are_typed.Goals as goal

pub returns-clause-sent : goal.returns-clause-sent
returns-clause-sent c = fitting_are_bounded

pub returns-clause-given : goal.returns-clause-given
returns-clause-given c = remote_calls_give_far
