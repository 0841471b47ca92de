use Rattle.std.proofs.Common.{ap, refl, sym, subst}
use Rattle.rb_trees.specs.mirror.Declarations.{mirror_program}
use Rattle.rb_flow.specs.Program.{HasNoRefusal}
use Rattle.rb_law_division.specs.Sendable.{HasPlaces}
use Rattle.rb_top.specs.Commands.{EndsBatchRefused}
use Rattle.rb_top.specs.Scene.{output}
use Rattle.rb_top.specs.Words.{asked_by}
use Rattle.rb_top.proofs.Going.{goes_admitted, goes_refused, goes_starved}
use Rattle.rb_top.proofs.command.go_on.Goals as goal

pub go_on_admitted-requires-clause-admitted : goal.go_on_admitted-requires-clause-admitted
go_on_admitted-requires-clause-admitted g c = record {
  none = subst (λ q. HasNoRefusal (mirror_program q)) (sym c.in-Ok.ensures.typed) c.in-Ok.ensures.admission;
  places = subst (λ q. HasPlaces (mirror_program q)) (sym c.in-Ok.ensures.typed) c.requires.places;
}

pub returns-in-Ok : goal.returns-in-Ok
returns-in-Ok g c =
    goes_admitted g.D.L.Link c.args.source.now (asked_by c.args.task.now) c.go_on_admitted.result _ _ _ _ c.as_slice-text.result.now (mirror_program c.in-Ok.admitted.0) c.as_slice-text.ensures (ap mirror_program c.in-Ok.ensures.typed) c.in-Ok.ensures.admission
    c.go_on_admitted.ensures

pub returns-in-Err-Refused : goal.returns-in-Err-Refused
returns-in-Err-Refused g c =
    goes_refused g.D.L.Link c.args.source.now (asked_by c.args.task.now) c.in-Err-Refused.refusal c.refuse_batch.result _ _ _ (rw c.in-Err-Refused.field-0-is at c.in-Err-Refused.ensures.admission)
    (subst (λ t. EndsBatchRefused t c.in-Err-Refused.refusal c.refuse_batch.result (output g.W.Sink c.args.out.now) (output g.W.Sink c.refuse_batch.new.out)) c.as_slice-text.ensures c.refuse_batch.ensures) refl

pub returns-in-Err-Memory : goal.returns-in-Err-Memory
returns-in-Err-Memory g c = goes_starved g.D.L.Link c.args.source.now (asked_by c.args.task.now) _ _
