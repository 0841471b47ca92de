use Rattle.std.proofs.Common.{Err, ap, ◌∙◌}
use Rattle.rb_top.proofs.Serving.{session_halted}
use Rattle.rb_top.proofs.sessions.say_session.Goals as goal

pub returns-in-Err-Answers : goal.returns-in-Err-Answers
returns-in-Err-Answers g c = session_halted c.args.number c.args.answer c.in-Err-Answers.stop _ (c.in-Err-Answers.is ∙ ap Err c.in-Err-Answers.field-0-is)
