use Rattle.rb_meaning.specs.Shown.{line}
use Rattle.rb_top.specs.BatchRefusals.{shown_batch_refusal}
use Rattle.rb_top.specs.declared.status.Status.TheVariants.{BatchRefused}
use Rattle.rb_top.proofs.Ended.{starved_at_once}
use Rattle.rb_top.proofs.refusing.refuse_batch.Goals as goal

pub returns-in-Err : goal.returns-in-Err
returns-in-Err g c = starved_at_once (BatchRefused c.args.refusal) (line (shown_batch_refusal c.args.text.now c.args.refusal)) _
