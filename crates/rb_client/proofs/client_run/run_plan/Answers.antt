use Rattle.std.proofs.Common.{sym, ap, ◌∙◌}
use Rattle.rb_client.proofs.WholeRun.{given_back}
use Rattle.rb_client.proofs.client_run.run_plan.Goals as goal

pub returns : goal.returns
returns g c =
    given_back g.L.Link g.W.Sink c.args.plan.now.program c.args.fuel c.over-world.result c.run_over-ended.new.world c.args.link c.args.out c.link-1.given.0 c.out-1.given.0
    (ap (λ x. x.program) c.over-world.ensures.plan) c.over-world.ensures.link c.over-world.ensures.out
    (λ e. c.link-1.given.1 (sym (e ∙ c.over-world.ensures.same_link)) ∙ c.give_back.ensures) (λ e. c.out-1.given.1 (sym (e ∙ c.over-world.ensures.same_output)) ∙ c.give_back-2.ensures)
    c.run_over-ended.result c.run_over-ended.ensures
