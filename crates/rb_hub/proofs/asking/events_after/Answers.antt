-- The list at the number of the exchange is the next one.
use Rattle.std.proofs.Common.{ap, sym, ◌∙◌}
use Rattle.rb_hub.specs.HubLinks.{not_naming}
use Rattle.rb_hub.proofs.Linked.{next_some, next_none, if_so}
use Rattle.rb_hub.proofs.asking.events_after.Goals as goal

pub returns-in-Some : goal.returns-in-Some
returns-in-Some c =
    if_so c.not_naming.result (λ kept. kept.items) _ _
    (ap (not_naming c.args.number) c.as_slice.ensures ∙ sym (next_some c.args.number c.args.exchanges c.args.others.now c.in-Some.events.now (sym c.in-Some.ensures.value)))
    c.not_naming.ensures

pub returns-in-None : goal.returns-in-None
returns-in-None c = c.new.ensures.items ∙ sym (next_none c.args.number c.args.exchanges c.args.others.now (sym c.in-None.ensures.value))
