use Rattle.std.proofs.Common.{length, map}
use Rattle.rb_hub.specs.Serial.{as_event}
use Rattle.rb_top.specs.HubRuns.{served_there}
use Rattle.rb_top.specs.Scene.{output}
use Rattle.rb_top.proofs.PlayedOn.{SoFar}
use Rattle.rb_top.proofs.hub_run.play_events.Given as goal

abbrev pub invariant-events : goal.invariant-events
invariant-events g l = SoFar (served_there l.initial.hub.answers) (map as_event l.fn.events.items) (map as_event l.left.items) l.number l.hub (output g.W.Sink l.initial.out) (output g.W.Sink l.out)

abbrev pub decreases-events : goal.decreases-events
decreases-events g l = length l.left.items
