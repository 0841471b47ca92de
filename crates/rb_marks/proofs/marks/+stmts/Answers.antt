use Rattle.std.proofs.Common.{take, ap, ◌∙◌}
use Rattle.rb_marks.proofs.Fronts.{opened_kept}
use Rattle.rb_marks.proofs.marks.+stmts.Goals as goal

pub mark_opened-returns-clause-scope : goal.mark_opened-returns-clause-scope
mark_opened-returns-clause-scope t c =
    c.truncate.ensures ∙ ap (λ n. take n c.mark_stmts.new.scope) c.len-count.ensures
    ∙ opened_kept c.args.scope.now c.bind_declared.new.scope c.mark_stmts.new.scope _ c.in_ok-bind_declared.ensures c.in_ok-mark_stmts.ensures.kept
