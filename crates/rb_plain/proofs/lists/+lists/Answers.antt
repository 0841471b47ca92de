use Rattle.std.proofs.Common.{take, ap, ◌∙◌}
use Rattle.rb_plain.proofs.Fronts.{kept_opened}
use Rattle.rb_plain.proofs.lists.+lists.Goals as goal

pub add_turns-returns-clause-scope : goal.add_turns-returns-clause-scope
add_turns-returns-clause-scope t c =
    c.truncate.ensures ∙ ap (λ n. take n c.add_stmts.new.scope) c.len-count.ensures
    ∙ kept_opened c.args.scope.now c.bind.new.self c.add_stmts.new.scope _ c.in_ok-bind.ensures c.in_ok-add_stmts.ensures.kept
