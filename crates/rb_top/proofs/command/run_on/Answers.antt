use Rattle.std.proofs.Common.{refl}
use Rattle.rb_top.specs.Answers.{no_service}
use Rattle.rb_top.specs.Runs.{served_on}
use Rattle.rb_top.specs.Sources.{accepted_program}
use Rattle.rb_top.proofs.Going.{ran_loaded}
use Rattle.rb_top.proofs.command.run_on.Goals as goal

pub returns-in-Err : goal.returns-in-Err
returns-in-Err g c = no_service c.args.job.now.way c.args.job.now.program.now c.args.job.now.service.now c.args.job.now.fuel c.in-Err.ensures.loads refl

pub returns-in-Ok : goal.returns-in-Ok
returns-in-Ok g c =
    let loads = c.in-Ok.ensures.loads in
    ran_loaded g.D.L.Link c.args.program.now.text.now (accepted_program c.args.program.now) c.args.job.now.way c.args.job.now.program.now c.args.job.now.service.now loads.text c.args.job.now.fuel (served_on c.in-Ok.service c.in-Ok.table) c.run_program.result _ _ _ _ _
    loads.holds loads.is loads.left c.run_program.ensures
