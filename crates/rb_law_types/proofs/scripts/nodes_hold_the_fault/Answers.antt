-- All nodes of scripts.
use Rattle.rb_law_types.proofs.NodeFaults.{nodes_hold_the_fault}
use Rattle.rb_law_types.proofs.scripts.nodes_hold_the_fault.Goals as goal

pub returns : goal.returns
returns c = nodes_hold_the_fault
