use Rattle.std.proofs.Common.{take, ap, ◌∙◌}
use Rattle.rb_flow.proofs.Fronts.{opened_kept}
use Rattle.rb_flow.proofs.reading.+stmts.Goals as goal

pub read_opened-returns-clause-scope : goal.read_opened-returns-clause-scope
read_opened-returns-clause-scope t c =
    c.truncate.ensures ∙ ap (λ n. take n c.read_stmts.new.scope) c.len-count.ensures
    ∙ opened_kept c.args.scope.now c.bind.new.scope c.read_stmts.new.scope _ c.in_ok-bind.ensures c.in_ok-read_stmts.ensures.kept
