use Rattle.rb_session.specs.Answering.{IsTypedHost}
use Rattle.rb_session_tests.proofs.session.sessions.feed_all.Given as goal

abbrev pub invariant-loop-piece : goal.invariant-loop-piece
invariant-loop-piece l = IsTypedHost l.host
