use Rattle.rb_wire_fields.proofs.Grouping.{SoFar}
use Rattle.rb_wire_fields.proofs.groups.groups.Given as goal

abbrev pub invariant-groups : goal.invariant-groups
invariant-groups l = SoFar l.last l.more l.bytes l.sum l.unit l.left l.rest

abbrev pub decreases-groups : goal.decreases-groups
decreases-groups l = l.left
