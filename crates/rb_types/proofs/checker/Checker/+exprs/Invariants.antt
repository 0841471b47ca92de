use Rattle.std.proofs.Common.{◌≡◌, drop}
use Rattle.rb_trees.specs.mirror.Code.{mirror_exprs}
use Rattle.rb_types.specs.Checks.{state_of}
use Rattle.rb_types.specs.Steps.{exprs}
use Rattle.rb_types.specs.Views.{context_of, all_placed}
use Rattle.rb_types.proofs.Rows.{with_front}
use Rattle.rb_types.proofs.checker.Checker.+exprs.Given as goal

abbrev pub invariant-check_exprs-loop-e : goal.invariant-check_exprs-loop-e
invariant-check_exprs-loop-e l =
    with_front (all_placed l.placed) (exprs (context_of l.x) (mirror_exprs (drop l.e-index l.es)) (state_of l.self)) ≡ exprs (context_of l.x) (mirror_exprs l.es) (state_of l.fn.self)
