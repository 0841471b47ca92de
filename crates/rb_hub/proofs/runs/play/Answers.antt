-- Each event goes on from where those before it led.
use Rattle.std.proofs.Common.{◌∙◌, refl, rules}
use Rattle.std.specs.Prelude.{map}
use Rattle.std.proofs.lemmas.Result.{err_from_is_err_and}
use Rattle.rb_hub.specs.Serial.{as_event}
use Rattle.rb_hub.proofs.Played.{none_played, one_played, one_stopped, all_played, serially}
use Rattle.rb_hub.proofs.runs.play.Goals as goal

pub events-init : goal.events-init
events-init g c = record { played = none_played g.A.Answers (map as_event c.args.events.items) c.args.hub.now _; service = refl }

pub events-preserved : goal.events-preserved
events-preserved g c = record {
  played = one_played g.A.Answers (map as_event c.args.events.items) _ _ c.in-Some.event c.args.hub.now c.events.hub c.play_one.new.hub _ _ _ c.in_ok-play_one.field-0
      c.histories_go_on.ensures.events c.in-Some.ensures.items c.events.invariant.played c.in_ok-play_one.ensures.plays;
  service = c.in_ok-play_one.ensures.service ∙ c.events.invariant.service;
}

pub returns-in_err-play_one-clause-plays : goal.returns-in_err-play_one-clause-plays
returns-in_err-play_one-clause-plays g c =
    let p = err_from_is_err_and c.from_residual.result c.from_residual.ensures.1 in
    rw (p.1, p.2)
    (one_stopped g.A.Answers (map as_event c.args.events.items) _ _ c.in-Some.event c.args.hub.now c.events.hub c.play_one.new.hub _ _ _ _
    c.in-Some.ensures.items c.events.invariant.played c.in_err-play_one.ensures.plays)

pub returns-clause-plays : goal.returns-clause-plays
returns-clause-plays g c =
    all_played g.A.Answers (map as_event c.args.events.items) c.events.left.items c.args.hub.now c.events.hub _ _ tt (search rules) c.events.invariant.played

pub returns-clause-serially : goal.returns-clause-serially
returns-clause-serially g c is =
    serially g.A.Answers (map as_event c.args.events.items) c.args.hub.now c.events.hub _ _ tt c.histories_go_on.ensures.replies is (returns-clause-plays g c)
