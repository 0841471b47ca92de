use Rattle.std.proofs.Common.{sym, ◌∙◌}
use Rattle.rb_meaning.specs.Shown.{line}
use Rattle.rb_top.specs.Refusals.{shown_refusal}
use Rattle.rb_trees.specs.Reading.{read_refusal}
use Rattle.rb_top.specs.declared.status.SourceError.TheVariants as sources
use Rattle.rb_top.specs.declared.status.Status.TheVariants.{SourceRefused}
use Rattle.rb_top.proofs.Ended.{starved_line, starved_before, said_line}
use Rattle.rb_top.proofs.refusing.refuse.Goals as goal

pub returns-in-Err : goal.returns-in-Err
returns-in-Err g c = starved_line (read_refusal c.args.error) (SourceRefused (sources.Read c.args.error)) (line (shown_refusal c.args.text.now c.args.error)) _

pub returns-then-is_memory : goal.returns-then-is_memory
returns-then-is_memory g c = starved_before (read_refusal c.args.error) (SourceRefused (sources.Read c.args.error)) (line (shown_refusal c.args.text.now c.args.error)) _ (sym c.is_memory.ensures ∙ c.if-is_memory.true)

pub returns-in-Ok : goal.returns-in-Ok
returns-in-Ok g c =
    said_line (read_refusal c.args.error) (SourceRefused (sources.Read c.args.error)) (line (shown_refusal c.args.text.now c.args.error)) c.as_slice.result.now c.say.result _ _
    (sym c.is_memory.ensures ∙ c.if-is_memory.false) (c.as_slice.ensures.value ∙ c.in-Ok.ensures) c.say.ensures
