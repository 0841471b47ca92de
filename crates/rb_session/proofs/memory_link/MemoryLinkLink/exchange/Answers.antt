-- The request's pair is noted.
use mir.Facts.{Fits-lt-pow}
use Rattle.rb_base.specs.Links.{pair_of}
use Rattle.rb_session.specs.Exchanges.{all_told}
use Rattle.rb_session.specs.MemoryLinks.{LinkInMemory}
use Rattle.rb_session.proofs.Noted.{still_stands, answered}
use Rattle.rb_session.proofs.memory_link.MemoryLinkLink.exchange.Goals as goal

pub invariant_of-self-2 : goal.invariant_of-self-2
invariant_of-self-2 c =
    let own = c.self.inside in
    let said = c.in_ok-reply.ensures in
    λ fresh. still_stands own.host c.carry.new.host own.first (all_told own.pairs.items) (all_told c.carry.new.pairs.items) (pair_of c.args.request.now c.in_ok-reply.reply)
    (λ i. Fits-lt-pow (c.type_inv.request i)) (c.self.invariant c.if-self.false) said.answers said.service said.typed said.pair

pub returns : goal.returns
returns c =
    let own = c.self.inside in
    let before : LinkInMemory = record { host = own.host; first = own.first; pairs = all_told own.pairs.items; made = own.made; spent = own.spent } in
    let said = c.in_ok-reply.ensures in
    let now = answered c.args.request.now before c.in_ok-reply.reply c.carry.new.host (all_told c.carry.new.pairs.items) c.saturating_add-self-inside.result
    (λ i. Fits-lt-pow (c.type_inv.request i)) c.if-self.false (c.self.invariant c.if-self.false) said.answers said.service said.typed said.pair
    c.saturating_add-self-inside.ensures in
    rw (← c.self.view_is) now
