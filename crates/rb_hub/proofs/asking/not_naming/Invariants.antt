use Rattle.std.proofs.Common.{◌≡◌, ◌++◌, drop}
use Rattle.rb_hub.specs.HubLinks.{not_naming}
use Rattle.rb_hub.proofs.asking.not_naming.Given as goal

abbrev pub invariant-loop-event : goal.invariant-loop-event
invariant-loop-event l = l.kept.items ++ not_naming l.number (drop l.event-index l.events) ≡ not_naming l.number l.events
