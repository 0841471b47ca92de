use Rattle.std.proofs.Common.{map}
use Rattle.rb_hub.specs.Serial.{as_event}
use Rattle.rb_hub.proofs.Asked.{led}
use Rattle.rb_hub.proofs.asking.play_others.Goals as goal

pub returns-in-Ok-clause-leads : goal.returns-in-Ok-clause-leads
returns-in-Ok-clause-leads g c past s =
    led g.A.Answers (map as_event c.args.events.items) c.args.hub.now c.play.new.hub _ _ tt c.histories_go_on.ensures.replies c.in-Ok.ensures.plays past s
