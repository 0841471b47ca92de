use Rattle.std.proofs.Common.{sym, ◌∙◌}
use Rattle.rb_top.proofs.Serving.{line_wanting, session_cut, session_said, session_starved}
use Rattle.rb_top.proofs.sessions.say_answer.Goals as goal

pub returns-then-is_starved : goal.returns-then-is_starved
returns-then-is_starved g c = session_starved c.args.number c.args.answer.now _ (sym c.is_starved.ensures ∙ c.if-is_starved.true)

pub returns-in-Err : goal.returns-in-Err
returns-in-Err g c = line_wanting c.args.number c.args.answer.now _ (sym c.is_starved.ensures ∙ c.if-is_starved.false)

pub returns-in-Ok-write_lines : goal.returns-in-Ok-write_lines
returns-in-Ok-write_lines g c =
    session_said c.args.number c.args.answer.now c.as_slice.result.now _ _ (sym c.is_starved.ensures ∙ c.if-is_starved.false) (c.as_slice.ensures.value ∙ c.in-Ok.ensures) c.in-Ok-write_lines.ensures

pub returns : goal.returns
returns g c =
    session_cut c.args.number c.args.answer.now c.as_slice.result.now _ _ (sym c.is_starved.ensures ∙ c.if-is_starved.false) (c.as_slice.ensures.value ∙ c.in-Ok.ensures) c.in-Err-write_lines.ensures
