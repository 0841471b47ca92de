use Rattle.std.proofs.Common.{length, map}
use Rattle.rb_hub.specs.Serial.{as_event}
use Rattle.rb_hub_lines.proofs.LineTexts.{SoFar}
use Rattle.rb_hub_lines.proofs.reading.read_events.Given as goal

abbrev pub invariant-loop-rest : goal.invariant-loop-rest
invariant-loop-rest l = SoFar l.text l.rest (map as_event l.events.items)

abbrev pub decreases-loop-rest : goal.decreases-loop-rest
decreases-loop-rest l = length l.rest
