use Rattle.std.proofs.Common.{◌≤◌, length}
use Rattle.rb_format.proofs.weaving.reached_by.Given as goal

-- so many parts there are
abbrev pub invariant-loop-token : goal.invariant-loop-token
invariant-loop-token l = l.reached ≤ length l.parts
