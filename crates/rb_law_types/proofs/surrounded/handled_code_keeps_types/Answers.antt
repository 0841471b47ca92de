-- Each clause holds by induction on the run.
use Rattle.rb_law_types.proofs.InSurroundings.{types_keep_handled, batches_keep_handled}
use Rattle.rb_law_types.proofs.surrounded.handled_code_keeps_types.Goals as goal

pub returns-clause-own : goal.returns-clause-own
returns-clause-own g c = types_keep_handled g.F.StateFact.holds

pub returns-clause-batches : goal.returns-clause-batches
returns-clause-batches g c = batches_keep_handled g.F.StateFact.holds
