-- A session that hasn't stopped gathers what became whole.
use Rattle.rb_session.proofs.Fed.{gathers_by, no_stop, as_gathered}
use Rattle.rb_session.proofs.sessions.Session.take.Goals as goal

pub returns-clause-gathers : goal.returns-clause-gathers
returns-clause-gathers c =
    as_gathered _ _ _ _ _ _ _ c.self.view_is
    (gathers_by _ _ c.args.piece.now c.gather_piece-taken.new.rest.items _ _ c.gather_piece-taken.result _ (no_stop c.self.inside.stop c.in_default.not-Some) c.self.invariant
    c.gather_piece-taken.ensures.gathers c.gather_piece-taken.ensures.rest c.move_on.ensures.moves)
