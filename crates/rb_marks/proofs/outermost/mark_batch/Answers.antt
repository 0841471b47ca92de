use Rattle.std.proofs.Common.{take, ap, ◌∙◌}
use Rattle.rb_marks.proofs.Fronts.{opened_kept}
use Rattle.rb_marks.proofs.outermost.mark_batch.Goals as goal

pub returns-clause-scope : goal.returns-clause-scope
returns-clause-scope c =
    c.truncate.ensures ∙ ap (λ n. take n c.mark_stmts.new.scope) c.len-count.ensures
    ∙ opened_kept c.args.scope.now c.bind.new.self c.mark_stmts.new.scope _ c.in_ok-bind.ensures c.in_ok-mark_stmts.ensures.kept
