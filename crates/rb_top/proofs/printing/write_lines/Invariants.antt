use Rattle.std.proofs.Common.{length}
use Rattle.rb_base.proofs.Fronts.{HasFront}
use Rattle.rb_top.specs.Scene.{output}
use Rattle.rb_top.proofs.printing.write_lines.Given as goal

abbrev pub invariant-loop-rest : goal.invariant-loop-rest
invariant-loop-rest g l = HasFront (output g.W.Sink l.initial.out) (output g.W.Sink l.out) l.text l.rest

abbrev pub decreases-loop-rest : goal.decreases-loop-rest
decreases-loop-rest g l = length l.rest
