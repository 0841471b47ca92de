use Rattle.std.proofs.Common.{ap, subst}
use Rattle.rb_top.specs.Loads.{HoldsTyped}
use Rattle.rb_top.specs.Sources.{text_of, program_of}
use Rattle.rb_top.specs.Words.{asked_by}
use Rattle.rb_top.proofs.Going.{says_from, tells_of}
use Rattle.rb_top.proofs.command.carry_out_task.Goals as goal

pub returns-in-Err : goal.returns-in-Err
returns-in-Err g c = tells_of g.D.L.Link (asked_by c.args.task.now) c.program.result.now c.in-Err.status _ _ _ c.program.ensures c.in-Err.ensures.loads

pub returns-in-Ok : goal.returns-in-Ok
returns-in-Ok g c =
    says_from g.D.L.Link (asked_by c.args.task.now) c.go_on-status.result _ _ _ _ _ c.in-Ok.ensures.loads.1
    (c.go_on-status.ensures _ (ap (λ s. s.files) c.in-Ok.ensures.loads.1)
    (subst (λ p. HoldsTyped (g.F.Files.told c.args.files.now) p (text_of c.in-Ok.source) (program_of c.in-Ok.source)) c.program.ensures c.in-Ok.ensures.loads.0))
