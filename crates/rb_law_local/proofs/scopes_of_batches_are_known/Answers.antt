-- By the scopes, name by name.
use Rattle.rb_law_local.proofs.Beginning.{batches_begin_known, turns_begin_known, types_are_known}
use Rattle.rb_law_local.proofs.scopes_of_batches_are_known.Goals as goal

pub returns-clause-batches : goal.returns-clause-batches
returns-clause-batches c = batches_begin_known

pub returns-clause-turns : goal.returns-clause-turns
returns-clause-turns c = turns_begin_known

pub returns-clause-types : goal.returns-clause-types
returns-clause-types c = types_are_known
