use Rattle.std.proofs.Common.{◌∙◌, subst}
use Rattle.rb_top.specs.Ends.{Ends}
use Rattle.rb_top.specs.HubRuns.{bad_line}
use Rattle.rb_top.specs.Scene.{output}
use Rattle.rb_top.specs.declared.status.Status.TheVariants.{EventRefused}
use Rattle.rb_top.proofs.Ended.{starved_at_once}
use Rattle.rb_top.proofs.hub_run.say_bad_line.Goals as goal

pub returns-in-Err : goal.returns-in-Err
returns-in-Err g c = starved_at_once (EventRefused c.args.number) (bad_line c.args.number) _

pub returns-in-Ok : goal.returns-in-Ok
returns-in-Ok g c =
    subst (λ t. Ends (EventRefused c.args.number) t c.say.result (output g.W.Sink c.args.out.now) (output g.W.Sink c.say.new.out)) (c.as_bytes.ensures.value ∙ c.in-Ok.ensures) c.say.ensures
