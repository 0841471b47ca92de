use Rattle.std.proofs.Common.{◌-◌, ◌≤◌}
use Rattle.rb_base.specs.Devices.{device}
use Rattle.rb_top.specs.Manners.{hub_manner}
use Rattle.rb_top.specs.Scene.{output}
use Rattle.rb_top.specs.Sessions.{ServedSome}
use Rattle.rb_top.proofs.Serving.{IsFree}
use Rattle.rb_top.proofs.sessions.serve_sessions.Given as goal

abbrev pub invariant-loop-number : goal.invariant-loop-number
invariant-loop-number g l = record {
  so_far : ServedSome (hub_manner g.A.Answers) l.initial.hub.answers (device g.N.Listen.told g.N.Listen.faults l.initial.listen) (output g.W.Sink l.initial.out) l.number l.hub.answers
      (device g.N.Listen.told g.N.Listen.faults l.listen) (output g.W.Sink l.out);
  free : IsFree l.number l.hub;
  within : l.number ≤ l.count;
}

abbrev pub decreases-loop-number : goal.decreases-loop-number
decreases-loop-number g l = l.count - l.number
