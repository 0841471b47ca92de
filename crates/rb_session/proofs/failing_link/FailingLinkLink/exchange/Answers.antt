-- What isn't listed is passed on.
use Rattle.std.proofs.Common.{◌∙◌, sym, ap}
use Rattle.std.specs.Prelude.{◌==◌}
use Rattle.std.specs.List.{list_any}
use Rattle.rb_session.specs.FailingLinks.{FailingInMemory}
use Rattle.rb_session.proofs.Failing.{passed_on}
use Rattle.rb_session.proofs.failing_link.FailingLinkLink.exchange.Goals as goal

pub returns : goal.returns
returns c =
    let made = c.saturating_add-self-inside.result in
    let before : FailingInMemory = record { link = c.self.inside.link; made = c.self.inside.made; failing = c.self.inside.failing; faults = c.self.inside.faults } in
    let fresh = sym c.is_spent.ensures ∙ c.if-is_spent.false in
    let unlisted = ap (λ f. list_any (λ n. n == made) f) (sym c.as_slice.ensures) ∙ sym c.contains.ensures.value ∙ c.if-contains.false in
    let said = passed_on c.args.request.now before c.exchange.result c.exchange.new.self made c.saturating_add-self-inside.ensures fresh unlisted c.exchange.ensures in
    rw (← c.self.view_is) said
