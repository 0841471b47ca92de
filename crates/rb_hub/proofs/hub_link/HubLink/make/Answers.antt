-- The session that was opened is the link's own.
use Rattle.std.proofs.Common.{sym, subst}
use Rattle.rb_session.specs.Exchanges.{all_told}
use Rattle.rb_hub.specs.HubLinks.{Owns, requests_in}
use Rattle.rb_hub.proofs.Linked.{owns_new}
use Rattle.rb_hub.proofs.hub_link.HubLink.make.Goals as goal

pub invariant_of-result : goal.invariant_of-result
invariant_of-result c fresh =
    let said = c.in-Ok.ensures.steps in
    subst (λ xs. Owns c.opened-opened.result (requests_in (all_told xs)) c.step.new.self) (sym c.new.ensures.items)
    (owns_new _ c.opened-opened.result c.args.hub c.step.new.self _ c.each_step_goes_on.ensures c.opened-opened.ensures (sym c.in-Ok.ensures.refused) c.stands_somewhere.ensures.stands said.0 said.1.2)
