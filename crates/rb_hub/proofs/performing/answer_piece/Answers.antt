-- The requests that became whole are answered, or not all of them.
use Rattle.std.proofs.lemmas.Result.{err_from_is_err_and}
use Rattle.rb_hub.proofs.Hearing.{answered_so, answered_not}
use Rattle.rb_hub.proofs.performing.answer_piece.Goals as goal

pub returns-in_err-answer_all-clause-answers : goal.returns-in_err-answer_all-clause-answers
returns-in_err-answer_all-clause-answers g c =
    let p = err_from_is_err_and c.from_residual-in_err-answer_all.result c.from_residual-in_err-answer_all.ensures.1 in
    rw (p.1, p.2)
    (answered_not g.A.Answers c.args.answers.now c.answer_all.new.answers c.args.number c.args.place _ _ _ _ _ _ _ c.in_ok-end.end _ _ _
    (record { at = c.requires.place; all = c.requires.may.seats_open; none = c.new-whole.ensures; gathers = c.gather_at-answer.ensures; ends = c.in_ok-end.ensures; same = c.as_slice.ensures })
    c.in_err-answer_all.ensures.replies)

pub returns-clause-answers : goal.returns-clause-answers
returns-clause-answers g c =
    answered_so g.A.Answers c.args.answers.now c.answer_all.new.answers c.args.number c.args.place _ _ _ _ _ _ _ c.in_ok-end.end _ _
    (record { at = c.requires.place; all = c.requires.may.seats_open; none = c.new-whole.ensures; gathers = c.gather_at-answer.ensures; ends = c.in_ok-end.ensures; same = c.as_slice.ensures })
    c.in_ok-answer_all.ensures.replies
