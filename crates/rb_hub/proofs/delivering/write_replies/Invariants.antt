use Rattle.rb_base.specs.Devices.{device}
use Rattle.rb_hub.proofs.Written.{HasWritten}
use Rattle.rb_hub.proofs.delivering.write_replies.Given as goal

abbrev pub invariant-loop-out : goal.invariant-loop-out
invariant-loop-out g l =
    HasWritten (device g.K.Sink.told g.K.Sink.faults l.initial.sink) (device g.K.Sink.told g.K.Sink.faults l.sink) l.outs l.out-index
