-- A session that hasn't stopped answers what became whole.
use Rattle.rb_session.proofs.Fed.{feeds_by, no_stop, as_seen}
use Rattle.rb_session.proofs.sessions.Session.feed.Goals as goal

pub returns-clause-feeds : goal.returns-clause-feeds
returns-clause-feeds c =
    as_seen _ _ _ _ _ _ _ _ _ c.self.view_is
    (feeds_by _ _ _ _ c.args.piece.now c.take_piece-taken.new.rest.items _ _ c.take_piece-taken.result _ (no_stop c.self.inside.stop c.in_default.not-Some) c.self.invariant
    c.take_piece-taken.ensures.takes c.take_piece-taken.ensures.rest c.move_on.ensures.moves)
