use Rattle.std.proofs.Common.{◌-◌, length}
use Rattle.rb_session.proofs.Streamed.{GatheredSoFar}
use Rattle.rb_session.proofs.requests.gather_whole.Given as goal

abbrev pub invariant-whole : goal.invariant-whole
invariant-whole l = GatheredSoFar l.bytes l.most l.at l.requests l.initial.whole l.whole

abbrev pub decreases-whole : goal.decreases-whole
decreases-whole l = length l.bytes - l.at
