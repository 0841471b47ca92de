use Rattle.std.proofs.Common.{sym, ◌∙◌}
use Rattle.rb_meaning.specs.Shown.{line}
use Rattle.rb_top.specs.Refusals.{shown_violation}
use Rattle.rb_meaning_types.specs.Violations.{violation_of}
use Rattle.rb_top.specs.declared.status.SourceError.TheVariants as sources
use Rattle.rb_top.specs.declared.status.Status.TheVariants.{SourceRefused}
use Rattle.rb_top.proofs.Ended.{starved_line, starved_before, said_line}
use Rattle.rb_top.proofs.refusing.refuse_types.Goals as goal

pub returns-in-Err : goal.returns-in-Err
returns-in-Err g c = starved_line (violation_of c.args.error) (SourceRefused (sources.Types c.args.error)) (line (shown_violation c.args.text.now c.args.error)) _

pub returns-then-is_no_violation : goal.returns-then-is_no_violation
returns-then-is_no_violation g c = starved_before (violation_of c.args.error) (SourceRefused (sources.Types c.args.error)) (line (shown_violation c.args.text.now c.args.error)) _ (sym c.is_no_violation.ensures ∙ c.if-is_no_violation.true)

pub returns-in-Ok : goal.returns-in-Ok
returns-in-Ok g c =
    said_line (violation_of c.args.error) (SourceRefused (sources.Types c.args.error)) (line (shown_violation c.args.text.now c.args.error)) c.as_slice.result.now c.say.result _ _
    (sym c.is_no_violation.ensures ∙ c.if-is_no_violation.false) (c.as_slice.ensures.value ∙ c.in-Ok.ensures) c.say.ensures
