use Rattle.std.proofs.Common.{length}
use Rattle.rb_base.specs.Devices.{device}
use Rattle.rb_base.proofs.Fronts.{HasFront}
use Rattle.rb_base.proofs.sinks.write_whole.Given as goal

abbrev pub invariant-loop-rest : goal.invariant-loop-rest
invariant-loop-rest g l =
    HasFront (device g.W.Sink.told g.W.Sink.faults l.initial.out) (device g.W.Sink.told g.W.Sink.faults l.out) l.piece l.rest

abbrev pub decreases-loop-rest : goal.decreases-loop-rest
decreases-loop-rest g l = length l.rest
