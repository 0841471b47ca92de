use Rattle.std.proofs.Common.{map, sym}
use Rattle.rb_hub.specs.Serial.{as_event}
use Rattle.rb_top.specs.HubRuns.{plays}
use Rattle.rb_top.specs.Runs.{served_on}
use Rattle.rb_top.proofs.PlayedOn.{refused_so}
use Rattle.rb_top.proofs.hub_run.play_text.Goals as goal

pub returns-in-Ok : goal.returns-in-Ok
returns-in-Ok g c = plays (map as_event c.in-Ok.events.items) c.in-Ok.ensures c.play_on.ensures

pub returns-in-Err-Refused : goal.returns-in-Err-Refused
returns-in-Err-Refused g c =
    refused_so c.args.text.now (served_on c.args.service c.args.table) c.in-Err-Refused.number _ c.say_bad_line.result _ _ (rw c.in-Err-Refused.field-0-is at c.in-Err-Refused.ensures) c.say_bad_line.ensures
    (sym c.in-Err-Refused.number-is)
