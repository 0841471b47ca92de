use Rattle.std.proofs.Common.{take, ap, ◌∙◌}
use Rattle.rb_marks.proofs.Fronts.{opened_kept}
use Rattle.rb_marks.proofs.outermost.+outer_marks.Goals as goal

pub mark_outer_opened-returns-clause-scope : goal.mark_outer_opened-returns-clause-scope
mark_outer_opened-returns-clause-scope t c =
    c.truncate.ensures ∙ ap (λ n. take n c.mark_outer_stmts.new.scope) c.len-count.ensures
    ∙ opened_kept c.args.scope.now c.bind_declared.new.scope c.mark_outer_stmts.new.scope _ c.in_ok-bind_declared.ensures c.in_ok-mark_outer_stmts.ensures.kept
