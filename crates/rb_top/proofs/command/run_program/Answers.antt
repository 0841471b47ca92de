use Rattle.std.proofs.Common.{refl}
use Rattle.rb_top.specs.Runs.{served_on}
use Rattle.rb_top.specs.Sources.{accepted_program}
use Rattle.rb_top.proofs.Ended.{run_ended}
use Rattle.rb_top.proofs.Trials.{run_in_memory}
use Rattle.rb_top.proofs.command.run_program.Goals as goal

pub returns-in-Both : goal.returns-in-Both
returns-in-Both g c = run_in_memory g.D.L.Link c.args.job.now.way c.args.job.now.service.now c.args.program.now.text.now (accepted_program c.args.program.now) c.args.job.now.fuel (served_on c.args.service c.args.table) c.run_both.result _ _ _ _ c.in-Both.is c.run_both.ensures

pub returns-in-Unsplit : goal.returns-in-Unsplit
returns-in-Unsplit g c =
    rw c.in-Unsplit.is (run_ended c.args.program.now.text.now (accepted_program c.args.program.now) c.args.job.now.fuel (served_on c.args.service c.args.table) c.run_unsplit.result c.run_answer.result _ _ c.run_answer.ensures c.run_unsplit.ensures, refl)

pub returns-in-Pair : goal.returns-in-Pair
returns-in-Pair g c = rw c.in-Pair.is c.run_pair.ensures
