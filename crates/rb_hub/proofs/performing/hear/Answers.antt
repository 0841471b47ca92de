-- A session takes a piece, its requests are answered, and it ends or stays.
use Rattle.std.proofs.lemmas.Result.{err_from_is_err_and}
use Rattle.rb_hub.proofs.Ending.{still_there, does_piece, does_part, may_go_on}
use Rattle.rb_hub.proofs.performing.hear.Goals as goal

pub finish-requires : goal.finish-requires
finish-requires g c =
    still_there g.A.Answers c.args.answers.now c.answer_piece.new.answers c.args.number _ _ _ _ _ _
    c.requires.place c.in_ok-end.ensures.answers.2

pub returns-in_err-finish-clause-hears : goal.returns-in_err-finish-clause-hears
returns-in_err-finish-clause-hears g c =
    let p = err_from_is_err_and c.from_residual-in_err-finish.result c.from_residual-in_err-finish.ensures.1 in
    rw (p.1, p.2)
    (does_part g.A.Answers c.args.answers.now c.answer_piece.new.answers c.args.number _ _ _ c.finish.new.seats.items c.in_ok-end.end _ _ _ c.in_ok-end.ensures.answers c.in_err-finish.ensures.err)

pub returns-clause-hears : goal.returns-clause-hears
returns-clause-hears g c =
    does_piece g.A.Answers c.args.answers.now c.answer_piece.new.answers c.args.number _ _ _ _ _ c.in_ok-end.end _ _ _
    c.requires.place c.in_ok-end.ensures.answers c.in_ok-finish.ensures.outs c.in_ok-finish.ensures.seats

pub returns-clause-kept : goal.returns-clause-kept
returns-clause-kept g c =
    may_go_on g.A.Answers c.args.answers.now c.answer_piece.new.answers c.args.number _ _ _ _ _ _ c.in_ok-end.end
    c.requires.place c.requires.may.seats_open c.in_ok-end.ensures.answers.2 c.in_ok-finish.ensures.seats
    c.in_ok-end.ensures.ready
