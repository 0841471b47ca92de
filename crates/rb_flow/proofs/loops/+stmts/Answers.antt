use Rattle.std.proofs.Common.{take, ap, ◌∙◌}
use Rattle.rb_flow.proofs.Fronts.{opened_kept}
use Rattle.rb_flow.proofs.loops.+stmts.Goals as goal

pub note_turns-returns-clause-scope : goal.note_turns-returns-clause-scope
note_turns-returns-clause-scope t c =
    c.truncate.ensures ∙ ap (λ n. take n c.note_stmts.new.scope) c.len-count.ensures
    ∙ opened_kept c.args.scope.now c.bind.new.scope c.note_stmts.new.scope _ c.in_ok-bind.ensures c.in_ok-note_stmts.ensures.kept
