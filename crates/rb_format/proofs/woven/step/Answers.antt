use Rattle.rb_format.proofs.LinesRead.{behind_comment, behind_printed}
use Rattle.rb_format.proofs.woven.step.Goals as goal

pub returns-then-is_comment_line-clause-goes : goal.returns-then-is_comment_line-clause-goes
returns-then-is_comment_line-clause-goes c =
    behind_comment c.args.printed.now c.args.text.now c.in_ok-line.line.now c.in_ok-line.behind.now c.in_ok-line.ensures
    (c.is_comment_line.ensures c.if-is_comment_line.true)

pub returns-then-ends_as-clause-goes : goal.returns-then-ends_as-clause-goes
returns-then-ends_as-clause-goes c =
    behind_printed c.args.printed.now c.args.text.now c.in_ok-wanted.wanted.now c.in_ok-wanted.more.now
    c.in_ok-line.line.now c.in_ok-line.behind.now c.in_ok-wanted.ensures c.in_ok-line.ensures
    (c.ends_as.ensures c.if-ends_as.true)
