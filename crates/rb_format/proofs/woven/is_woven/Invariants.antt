use Rattle.std.proofs.Common.{length}
use Rattle.rb_format.specs.Woven.{IsWoven}
use Rattle.rb_format.proofs.woven.is_woven.Given as goal

-- so far it is, if what is left is
abbrev pub invariant-loop-rest : goal.invariant-loop-rest
invariant-loop-rest l = IsWoven l.left l.rest → IsWoven l.printed l.text

abbrev pub decreases-loop-rest : goal.decreases-loop-rest
decreases-loop-rest l = length l.rest
