use Rattle.std.proofs.Common.{◌≡◌, take}
use Rattle.rb_scopes.proofs.segments.shared.Given as goal

abbrev pub invariant-loop-segment : goal.invariant-loop-segment
invariant-loop-segment l = l.all.items ≡ take l.segment-index l.segments
