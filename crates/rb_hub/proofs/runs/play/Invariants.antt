use Rattle.std.proofs.Common.{◌≡◌, length}
use Rattle.std.specs.Prelude.{map}
use Rattle.rb_hub.specs.Serial.{as_event}
use Rattle.rb_hub.proofs.Played.{IsPlayed}
use Rattle.rb_hub.proofs.runs.play.Given as goal

abbrev pub invariant-events : goal.invariant-events
invariant-events g l = record {
  played : IsPlayed g.A.Answers (map as_event l.fn.events.items) (map as_event l.left.items) l.initial.hub l.hub l.initial.outs l.outs;
  service : g.A.Answers.service l.hub.answers ≡ g.A.Answers.service l.initial.hub.answers;
}

abbrev pub decreases-events : goal.decreases-events
decreases-events g l = length l.left.items
