-- The exchange is noted, and the own session has one request more.
use Rattle.std.proofs.Common.{ap, ◌∙◌, drop, length}
use Rattle.rb_base.specs.Links.{pair_of}
use Rattle.rb_session.specs.Exchanges.{all_told}
use Rattle.rb_hub.specs.HubLinks.{HubLinkSeen, next_events, requests_in}
use Rattle.rb_hub.proofs.Linked.{owns_kept, owns_next, few_requests, few_pairs, fresh_so, exchanged, to_come}
use Rattle.rb_hub.proofs.hub_link.HubLinkLink.exchange.Goals as goal

pub carry-requires-clause-owns : goal.carry-requires-clause-owns
carry-requires-clause-owns c =
    let own = c.self.inside in
    let payloads = requests_in (all_told own.kept.pairs.items) in
    let size = c.len-exchanges.ensures ∙ own.kept.pairs.ok.0 in (
      payloads,
      few_requests own.kept.pairs.items c.len-exchanges.result size c.if-exchanges-ge-MOST_EXCHANGES.false,
      owns_kept own.number payloads (drop c.len-exchanges.result own.others) c.in_ok-events.events.items own.hub c.play_others.new.hub (c.self.invariant c.if-self.false) c.in_ok-events.ensures
          c.in_ok-play_others.ensures.leads,
    )

pub invariant_of-self-2 : goal.invariant_of-self-2
invariant_of-self-2 c fresh =
    let own = c.self.inside in
    let said = c.in_ok-reply.ensures in
    let payloads = requests_in (all_told own.kept.pairs.items) in
    let size = c.len-exchanges.ensures ∙ own.kept.pairs.ok.0 in
    let met = owns_kept own.number payloads (drop c.len-exchanges.result own.others) c.in_ok-events.events.items own.hub c.play_others.new.hub (c.self.invariant c.if-self.false) c.in_ok-events.ensures
    c.in_ok-play_others.ensures.leads in
    owns_next own.number c.args.request.now (all_told own.kept.pairs.items) (all_told c.carry.new.kept.pairs.items) c.in_ok-reply.reply c.play_others.new.hub c.carry.new.hub
    c.streams_are_read.ensures.streams c.streams_are_read.ensures.fronts c.requires (few_requests own.kept.pairs.items c.len-exchanges.result size c.if-exchanges-ge-MOST_EXCHANGES.false) met said.stands said.pair

pub returns : goal.returns
returns c =
    let own = c.self.inside in
    let before : HubLinkSeen = record {
      hub = own.hub;
      number = own.number;
      others = drop (length own.kept.pairs.items) own.others;
      pairs = all_told own.kept.pairs.items;
      found = own.kept.found.items;
      left = own.kept.left.items;
      made = own.made;
      spent = own.spent;
    } in
    let size = c.len-exchanges.ensures ∙ own.kept.pairs.ok.0 in
    let said = c.in_ok-reply.ensures in
    let kept = c.carry.new.kept in
    let now =
    exchanged c.args.request.now before c.in_ok-reply.reply c.play_others.new.hub c.carry.new.hub c.in_ok-events.events.items (drop (length kept.pairs.items) own.others) (all_told kept.pairs.items)
    kept.found.items kept.left.items c.saturating_add-self-inside.result
    (fresh_so before c.if-self.false (few_pairs own.kept.pairs.items c.len-exchanges.result size c.if-exchanges-ge-MOST_EXCHANGES.false))
    (c.in_ok-events.ensures ∙ ap (λ n. next_events own.number (drop n own.others)) size) c.in_ok-play_others.ensures.leads c.in_ok-play_others.ensures.service said.answers said.finds said.typed
    said.service said.stands
    (to_come own.others own.kept.pairs.items kept.pairs.items (pair_of c.args.request.now c.in_ok-reply.reply) said.pair) said.pair said.found said.left c.saturating_add-self-inside.ensures in
    rw (← c.self.view_is) now
