-- A step that was done, and one that was refused.
use Rattle.rb_hub.specs.Serial.{as_event}
use Rattle.rb_hub.proofs.Played.{step_played, refusal_played}
use Rattle.rb_hub.proofs.runs.play_one.Goals as goal

pub returns-in-Ok-clause-plays : goal.returns-in-Ok-clause-plays
returns-in-Ok-clause-plays g c =
    step_played g.A.Answers (as_event c.args.event) c.args.hub.now c.step.new.self _ _ c.each_step_goes_on.ensures tt c.in-Ok.ensures.refused c.in-Ok.ensures.steps

pub returns-in-Err-Refused-clause-plays : goal.returns-in-Err-Refused-clause-plays
returns-in-Err-Refused-clause-plays g c =
    let said = rw c.in-Err-Refused.field-0-is at c.in-Err-Refused.ensures in
    refusal_played g.A.Answers (as_event c.args.event) c.args.hub.now c.step.new.self _ _ c.in-Err-Refused.refusal c.each_step_goes_on.ensures said.refused said.steps
