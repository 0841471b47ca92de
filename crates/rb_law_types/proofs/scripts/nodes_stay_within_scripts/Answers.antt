-- All nodes of scripts.
use Rattle.rb_law_types.proofs.NodeSizes.{nodes_stay_within}
use Rattle.rb_law_types.proofs.scripts.nodes_stay_within_scripts.Goals as goal

pub returns : goal.returns
returns c = nodes_stay_within
