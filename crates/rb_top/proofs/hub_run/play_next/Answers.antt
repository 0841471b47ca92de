use Rattle.std.proofs.Common.{inr, refl, subst}
use Rattle.rb_hub.specs.Serial.{as_event}
use Rattle.rb_top.specs.HubRuns.{step_lines}
use Rattle.rb_top.specs.Printing.{Prints}
use Rattle.rb_top.specs.Scene.{output}
use Rattle.rb_top.proofs.PlayedOn.{played_so}
use Rattle.rb_top.proofs.hub_run.play_next.Goals as goal

pub returns-in-Ok : goal.returns-in-Ok
returns-in-Ok g c =
    played_so _ (λ h. refl) (λ h. refl) c.args.number (as_event c.args.event) c.args.hub.now c.play_one.new.hub c.new-given.result c.play_one.new.outs c.in-Ok.refusal c.say_step.result (output g.W.Sink c.args.out.now) (output g.W.Sink c.say_step.new.out) c.new-given.ensures c.in-Ok.ensures.plays
    (subst (λ x. Prints (step_lines c.args.number c.in-Ok.refusal x) c.say_step.result (output g.W.Sink c.args.out.now) (output g.W.Sink c.say_step.new.out)) c.as_slice.ensures c.say_step.ensures)

pub returns : goal.returns
returns g c = λ past stands. inr (refl, refl)
