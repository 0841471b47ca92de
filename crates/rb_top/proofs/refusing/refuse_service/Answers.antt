use Rattle.std.proofs.Common.{sym, ◌∙◌}
use Rattle.rb_meaning.specs.Shown.{line}
use Rattle.rb_meaning_types.specs.Stores.{store_refusal}
use Rattle.rb_top.specs.ServiceRefusals.{shown_service_refusal}
use Rattle.rb_top.specs.declared.status.Status.TheVariants.{ServiceRefused}
use Rattle.rb_top.proofs.Ended.{starved_line, starved_before, said_line}
use Rattle.rb_top.proofs.refusing.refuse_service.Goals as goal

pub returns-in-Err : goal.returns-in-Err
returns-in-Err g c = starved_line (store_refusal c.args.error) (ServiceRefused c.args.error) (line (shown_service_refusal c.args.text.now c.args.error)) _

pub returns-then-is_no_store_refusal : goal.returns-then-is_no_store_refusal
returns-then-is_no_store_refusal g c = starved_before (store_refusal c.args.error) (ServiceRefused c.args.error) (line (shown_service_refusal c.args.text.now c.args.error)) _ (sym c.is_no_store_refusal.ensures ∙ c.if-is_no_store_refusal.true)

pub returns-in-Ok : goal.returns-in-Ok
returns-in-Ok g c =
    said_line (store_refusal c.args.error) (ServiceRefused c.args.error) (line (shown_service_refusal c.args.text.now c.args.error)) c.as_slice.result.now c.say.result _ _
    (sym c.is_no_store_refusal.ensures ∙ c.if-is_no_store_refusal.false) (c.as_slice.ensures.value ∙ c.in-Ok.ensures) c.say.ensures
