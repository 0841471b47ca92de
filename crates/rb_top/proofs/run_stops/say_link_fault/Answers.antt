use Rattle.std.proofs.Common.{subst, ◌∙◌}
use Rattle.rb_top.specs.Ends.{Ends}
use Rattle.rb_top.specs.Scene.{output}
use Rattle.rb_top.specs.declared.status.Status.TheVariants.{LinkFault}
use Rattle.rb_top.proofs.run_stops.say_link_fault.Goals as goal

pub returns-in-Ok : goal.returns-in-Ok
returns-in-Ok g c =
    subst (λ t. Ends (LinkFault c.args.done) t c.say.result (output g.W.Sink c.args.out.now) (output g.W.Sink c.say.new.out)) (c.as_slice.ensures.value ∙ c.in-Ok.ensures) c.say.ensures
