-- The exchange is noted.
use Rattle.std.proofs.Common.{◌∙◌, ap, drop, length}
use Rattle.rb_base.specs.Links.{pair_of}
use Rattle.rb_session.specs.Exchanges.{all_told}
use Rattle.rb_session.specs.MeddledLinks.{MeddledInMemory, host_found}
use Rattle.rb_session.proofs.Meddled.{to_come, meddles}
use Rattle.rb_session.proofs.meddled_link.MeddledLinkLink.exchange.Goals as goal

pub returns : goal.returns
returns c =
    let own = c.self.inside in
    let before : MeddledInMemory = record {
      host = own.host;
      others = drop (length own.kept.pairs.items) own.others;
      pairs = all_told own.kept.pairs.items;
      found = own.kept.found.items;
      left = own.kept.left.items;
      made = own.made;
      spent = own.spent;
    } in
    let said = c.in_ok-reply.ensures in
    let kept = c.carry.new.kept in
    let rest = to_come own.others own.kept.pairs.items kept.pairs.items (pair_of c.args.request.now c.in_ok-reply.reply) said.pair in
    let met = c.in_ok-meddle.ensures.found ∙ ap (λ n. host_found (drop n own.others) own.host) (c.len-exchanges.ensures ∙ own.kept.pairs.ok.0) in
    let now = meddles c.args.request.now before c.in_ok-reply.reply c.meddle.new.host c.carry.new.host (drop (length kept.pairs.items) own.others) (all_told kept.pairs.items)
    kept.found.items kept.left.items c.saturating_add-self-inside.result c.if-self.false met said.answers rest said.pair said.found said.left
    c.saturating_add-self-inside.ensures in
    rw (← c.self.view_is) now
