use Rattle.std.proofs.Common.{refl}
use Rattle.std.specs.Prelude.{map}
use Rattle.rb_meaning_split.specs.Division.{mirror_split}
use Rattle.rb_top.specs.Sources.{admitted_program}
use Rattle.rb_top.specs.Words.{asked_by}
use Rattle.rb_top.proofs.Going.{goes_divided, goes_undivided, goes_undecided}
use Rattle.rb_top.proofs.command.go_on_admitted.Goals as goal

pub returns-in-Ok : goal.returns-in-Ok
returns-in-Ok g c =
    goes_divided g.D.L.Link c.args.text.now (admitted_program c.args.admitted.now) (map mirror_split c.in-Ok.splits) (asked_by c.args.task.now) c.fulfil.result _ _ _ _ c.in-Ok.ensures.divided c.fulfil.ensures

pub returns-in-Err-Refused : goal.returns-in-Err-Refused
returns-in-Err-Refused g c =
    goes_undivided g.D.L.Link c.args.text.now (admitted_program c.args.admitted.now) (asked_by c.args.task.now) c.in-Err-Refused.refusal c.refuse_batch.result _ _ _
    (rw c.in-Err-Refused.field-0-is at c.in-Err-Refused.ensures.divided) (rw c.in-Err-Refused.field-0-is at c.refuse_batch.ensures) refl

pub returns-in-Err-Memory : goal.returns-in-Err-Memory
returns-in-Err-Memory g c = goes_undecided g.D.L.Link c.args.text.now (admitted_program c.args.admitted.now) (asked_by c.args.task.now) _ _
