-- The replies to the piece are written, or a front of them.
use Rattle.std.proofs.Common.{Ok}
use Rattle.rb_session.specs.declared.sessions.SessionStop.TheVariants.{BadFrame, SessionSpent}
use Rattle.rb_session.proofs.Written.{written, written_stop}
use Rattle.rb_session.proofs.OneRequest.{one_request}
use Rattle.rb_session.proofs.serving.serve_piece.Goals as goal

pub returns-in-Ok-clause-serves : goal.returns-in-Ok-clause-serves
returns-in-Ok-clause-serves g c =
    written _ _ _ _ _ _ _ _ (Ok c.in-Ok.field-0) _ _ _ c.requires.fresh c.clear.ensures.items c.as_slice.ensures (λ e. absurd (cc e)) c.in-Ok.ensures.feeds c.write_then.ensures

pub returns-in-Err-BadFrame-clause-serves : goal.returns-in-Err-BadFrame-clause-serves
returns-in-Err-BadFrame-clause-serves g c =
    written_stop _ _ _ _ _ _ _ _ _ (BadFrame c.in-Err-BadFrame.at) _ _ _ c.in-Err-BadFrame.field-0-is c.requires.fresh c.clear.ensures.items
    c.as_slice-in-Err-BadFrame.ensures (λ e. absurd (cc e)) c.in-Err-BadFrame.ensures.feeds c.write_then-in-Err-BadFrame.ensures

pub returns-in-Err-SessionSpent-clause-serves : goal.returns-in-Err-SessionSpent-clause-serves
returns-in-Err-SessionSpent-clause-serves g c =
    written_stop _ _ _ _ _ _ _ _ _ SessionSpent _ _ _ c.in-Err-SessionSpent.field-0-is c.requires.fresh c.clear.ensures.items
    c.as_slice-in-Err-SessionSpent.ensures (λ e. absurd (cc e)) c.in-Err-SessionSpent.ensures.feeds c.write_then-in-Err-SessionSpent.ensures

pub returns-in-Ok-clause-one : goal.returns-in-Ok-clause-one
returns-in-Ok-clause-one g c = one_request _ _ _ _ c.requires.waits c.requires.one (returns-in-Ok-clause-serves g c)

pub returns-in-Err-BadFrame-clause-one : goal.returns-in-Err-BadFrame-clause-one
returns-in-Err-BadFrame-clause-one g c = one_request _ _ _ _ c.requires.waits c.requires.one (returns-in-Err-BadFrame-clause-serves g c)

pub returns-in-Err-SessionSpent-clause-one : goal.returns-in-Err-SessionSpent-clause-one
returns-in-Err-SessionSpent-clause-one g c = one_request _ _ _ _ c.requires.waits c.requires.one (returns-in-Err-SessionSpent-clause-serves g c)
