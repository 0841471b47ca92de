-- The session that was opened last is known, and is closed as the history says.
use Rattle.rb_hub.proofs.Last.{known_last, closed_last}
use Rattle.rb_hub.proofs.serving.close_last.Goals as goal

pub close-end-requires : goal.close-end-requires
close-end-requires g c = known_last g.A.Answers c.args.number c.args.hub.now c.each_step_goes_on.ensures c.requires

pub returns-clause-closes : goal.returns-clause-closes
returns-clause-closes g c past stream is s =
    let none = known_last g.A.Answers c.args.number c.args.hub.now c.each_step_goes_on.ensures c.requires in
    closed_last g.A.Answers c.args.number _ past stream c.close-end.result.1 c.args.hub.now c.close-end.new.self c.each_step_goes_on.ensures none c.close-end.ensures.going c.close-end.ensures.closes is s
