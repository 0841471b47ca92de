use Rattle.std.proofs.Common.{◌≡◌, [], ap, rules}
use Rattle.std.specs.Prelude.{map}
use Rattle.std.proofs.lemmas.Result.{err_from_is_err_and}
use Rattle.rb_hub.specs.Serial.{as_event}
use Rattle.rb_top.specs.HubRuns.{served_there}
use Rattle.rb_top.proofs.PlayedOn.{all_played, none_so_far, one_more, stops_here}
use Rattle.rb_top.proofs.hub_run.play_events.Goals as goal

pub events-init : goal.events-init
events-init g c = none_so_far (map as_event c.args.events.items) c.args.hub.now _ c.requires

pub events-preserved : goal.events-preserved
events-preserved g c =
    one_more (served_there c.args.hub.now.answers) (map as_event c.args.events.items) _ _ (as_event c.in-Some.event) c.events.number c.events.hub c.play_next.new.hub _ _ _ c.events.invariant (ap (map as_event) c.in-Some.ensures.items) c.in_ok-play_next.ensures

pub returns-in_err-play_next : goal.returns-in_err-play_next
returns-in_err-play_next g c =
    let p = err_from_is_err_and c.from_residual.result c.from_residual.ensures.1 in
    rw (p.1, p.2)
    (stops_here c.histories_go_on.ensures.replies (served_there c.args.hub.now.answers) (map as_event c.args.events.items) _ _ (as_event c.in-Some.event) c.events.number c.in_err-play_next.field-0.0 c.events.hub c.play_next.new.hub _ _ _ c.events.invariant (ap (map as_event) c.in-Some.ensures.items) c.in_err-play_next.ensures)

pub returns : goal.returns
returns g c =
    let none : c.events.left.items ≡ [] = search rules in
    all_played c.histories_go_on.ensures.replies (served_there c.args.hub.now.answers) (map as_event c.args.events.items) (map as_event c.events.left.items) c.events.number c.events.hub _ _ c.events.invariant (ap (map as_event) none)
