use Rattle.std.proofs.Common.{ap, ◌∙◌}
use Rattle.rb_session.specs.Dials.{after_back}
use Rattle.rb_top.specs.DialRuns.{ran_in_memory}
use Rattle.rb_top.specs.Servers.{host_on}
use Rattle.rb_top.proofs.LinkRuns.{new_over}
use Rattle.rb_top.proofs.both_run.run_both.Goals as goal

pub returns-in-Ok-around : goal.returns-in-Ok-around
returns-in-Ok-around g c =
    ran_in_memory c.in-Ok-around.link c.run_over-status.new.link
    (new_over g.D.L.Link (host_on c.args.service c.args.table) c.in-Ok.inner c.in-Ok-around.link c.in-Ok.ensures c.requires.typed c.in-Ok-around.ensures.goes_on) c.run_over-status.ensures
    (c.back.ensures.after ∙ ap (after_back g.D.L.Link c.run_over-status.new.link) c.in-Ok-around.ensures.after)
