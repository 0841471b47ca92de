-- Each clause holds by induction on the run.
use Rattle.rb_meaning_code.specs.Leads.{leads}
use Rattle.rb_law_types.proofs.InSurroundings.{types_keep_led, batches_keep_led}
use Rattle.rb_law_types.proofs.surrounded.led_code_keeps_types.Goals as goal

pub returns-clause-own : goal.returns-clause-own
returns-clause-own g c = types_keep_led g.W.FittingSurroundings.fit (leads g.W.Surroundings)

pub returns-clause-batches : goal.returns-clause-batches
returns-clause-batches g c = batches_keep_led g.W.FittingSurroundings.fit (leads g.W.Surroundings)
