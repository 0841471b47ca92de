use Rattle.std.proofs.Common.{◌≡◌, nat_eq, None, drop}
use Rattle.std.specs.HashMap.{get}
use Rattle.rb_flow.specs.Origins.{first_of}
use Rattle.rb_flow.proofs.origins.first_of.Given as goal

abbrev pub invariant-loop-node : goal.invariant-loop-node
invariant-loop-node l = first_of (get nat_eq l.index) (drop l.node-index l.nodes) l.first ≡ first_of (get nat_eq l.index) l.nodes None
