-- By the laws that the body names.
use Rattle.rb_law_client.proofs.Fitting.{scripts_end}
use Rattle.rb_law_client.proofs.scripts_never_fault_kind.Goals as goal

pub returns : goal.returns
returns c = scripts_end c.laws_below.ensures c.nodes_hold_the_fault.ensures
