use Rattle.std.proofs.Common.{◌≡◌, ◌+◌, ◌*◌, ◌-◌, map}
use Rattle.rb_trees.specs.mirror.Scripts.{mirror_sexpr}
use Rattle.rb_wire_script.specs.Parts.{reads, exprs}
use Rattle.rb_wire_script.proofs.Stages.{with_front}
use Rattle.rb_wire_script.proofs.exprs.+exprs.Given as goal

abbrev pub decreases-expr : goal.decreases-expr
decreases-expr l = 3 * l.left

abbrev pub decreases-exprs : goal.decreases-exprs
decreases-exprs l = 3 * l.left + 1

abbrev pub decreases-unary : goal.decreases-unary
decreases-unary l = 3 * l.left + 2

abbrev pub decreases-binary : goal.decreases-binary
decreases-binary l = 3 * l.left + 2

abbrev pub decreases-call : goal.decreases-call
decreases-call l = 3 * l.left + 2

abbrev pub invariant-exprs-loop : goal.invariant-exprs-loop
invariant-exprs-loop l = with_front (map mirror_sexpr l.items) (reads (exprs l.pool l.left (l.count - l.counter)) l.place) ≡ reads (exprs l.pool l.left l.count) l.from
