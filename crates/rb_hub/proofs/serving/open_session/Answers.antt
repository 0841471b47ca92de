-- A session that was opened stands behind the others.
use Rattle.rb_hub.proofs.Last.{opened_last}
use Rattle.rb_hub.proofs.serving.open_session.Goals as goal

pub returns-in-Ok-clause-opens : goal.returns-in-Ok-clause-opens
returns-in-Ok-clause-opens g c past s =
    let said = c.in-Ok.ensures.steps in
    opened_last g.A.Answers past c.args.hub.now c.step.new.self _ c.each_step_goes_on.ensures c.requires said.0 said.1.2 s
