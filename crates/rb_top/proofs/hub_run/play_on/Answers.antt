use Rattle.std.proofs.Common.{◌∙◌, ap, map, subst, sym}
use Rattle.rb_trees.specs.mirror.Services.{mirror_service}
use Rattle.rb_hub.specs.Serial.{as_event}
use Rattle.rb_session.specs.Answering.{IsTypedHost}
use Rattle.rb_top.specs.HubRuns.{served_there}
use Rattle.rb_top.specs.Runs.{served_on}
use Rattle.rb_top.specs.Scene.{output}
use Rattle.rb_top.proofs.Differ.{served_classes_differ}
use Rattle.rb_top.proofs.PlayedOn.{hub_ended, hub_stopped, none_played}
use Rattle.rb_top.proofs.hub_run.play_on.Goals as goal

pub make-requires : goal.make-requires
make-requires g c = served_classes_differ (mirror_service c.args.service) c.args.table c.requires

pub make-hub-requires : goal.make-hub-requires
make-hub-requires g c = subst IsTypedHost (sym c.in-Ok.ensures) c.requires

pub returns-in_default : goal.returns-in_default
returns-in_default g c = none_played c.histories_go_on.ensures.replies (served_on c.args.service c.args.table) (map as_event c.args.events.items) _

pub returns-in-Ok-play_events : goal.returns-in-Ok-play_events
returns-in-Ok-play_events g c =
    hub_ended (served_on c.args.service c.args.table) (served_there c.make-hub.result.answers) (map as_event c.args.events.items) c.play_events.new.hub.answers.table c.table.result.now c.say_table.result
    (output g.W.Sink c.args.out.now) (output g.W.Sink c.play_events.new.out) (output g.W.Sink c.say_table.new.out)
    (ap served_there (ap (λ h. h.answers) c.make-hub.ensures ∙ c.in-Ok.ensures)) c.in-Ok-play_events.ensures (c.table.ensures ∙ ap (λ h. h.table) c.answers.ensures.value) c.say_table.ensures

pub returns : goal.returns
returns g c =
    hub_stopped (served_on c.args.service c.args.table) (served_there c.make-hub.result.answers) (map as_event c.args.events.items) c.in-Err.stop c.stopped.result
    (output g.W.Sink c.args.out.now) (output g.W.Sink c.play_events.new.out)
    (ap served_there (ap (λ h. h.answers) c.make-hub.ensures ∙ c.in-Ok.ensures)) c.in-Err.ensures c.stopped.ensures
