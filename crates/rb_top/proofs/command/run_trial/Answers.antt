use Rattle.std.proofs.Common.{refl}
use Rattle.rb_top.specs.Answers.{starved_for_texts}
use Rattle.rb_top.proofs.Trials.{tried_over}
use Rattle.rb_top.proofs.command.run_trial.Goals as goal

pub returns-in_default : goal.returns-in_default
returns-in_default g c = starved_for_texts refl refl refl

pub returns : goal.returns
returns g c = tried_over g.D.L.Link c.args.count c.in-Ok.files _ c.carry_out_task.result _ _ _ _ _ c.in-Ok.ensures c.of_trial.ensures c.carry_out_task.ensures
