use Rattle.std.proofs.Common.{length}
use Rattle.rb_help.proofs.Painting.{PaintsFront}
use Rattle.rb_help.proofs.colours.coloured.Given as goal

abbrev pub invariant-loop-rest : goal.invariant-loop-rest
invariant-loop-rest l = PaintsFront l.text l.shown l.rest

abbrev pub decreases-loop-rest : goal.decreases-loop-rest
decreases-loop-rest l = length l.rest
