use Rattle.std.proofs.Common.{◌≤◌, length}
use Rattle.rb_format.proofs.weaving.weave_parts.Given as goal

-- so many parts there are
abbrev pub invariant-loop-line : goal.invariant-loop-line
invariant-loop-line l = l.reached ≤ length l.parts
