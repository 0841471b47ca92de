use Rattle.std.proofs.Common.{◌∙◌, subst}
use Rattle.rb_top.specs.Ends.{Ends}
use Rattle.rb_top.specs.JsonRuns.{shown_json_refusal}
use Rattle.rb_top.specs.Scene.{output}
use Rattle.rb_top.specs.declared.status.Status.TheVariants.{JsonRefused}
use Rattle.rb_top.proofs.Ended.{starved_at_once}
use Rattle.rb_top.proofs.json_run.say_refusal.Goals as goal

pub returns-in-Err : goal.returns-in-Err
returns-in-Err g c = starved_at_once (JsonRefused c.args.refusal) (shown_json_refusal c.args.refusal) _

pub returns-in-Ok : goal.returns-in-Ok
returns-in-Ok g c =
    subst (λ t. Ends (JsonRefused c.args.refusal) t c.say.result (output g.W.Sink c.args.out.now) (output g.W.Sink c.say.new.out)) (c.as_bytes.ensures.value ∙ c.in-Ok.ensures) c.say.ensures
