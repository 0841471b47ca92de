use Rattle.std.proofs.Common.{take, ap, ◌∙◌}
use Rattle.rb_flow.proofs.Fronts.{opened_kept}
use Rattle.rb_flow.proofs.statements.+stmts.Goals as goal

pub walk_opened-returns-clause-scope : goal.walk_opened-returns-clause-scope
walk_opened-returns-clause-scope t c =
    c.truncate.ensures ∙ ap (λ n. take n c.walk_stmts.new.scope) c.len-count.ensures
    ∙ opened_kept c.args.scope.now c.bind_declared.new.scope c.walk_stmts.new.scope _ c.in_ok-bind_declared.ensures c.in_ok-walk_stmts.ensures.kept
