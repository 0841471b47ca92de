use Rattle.std.proofs.Common.{◌+◌, ◌*◌}
use Rattle.random_scripts.proofs.message.Writer.+exprs.Given as goal

abbrev pub decreases-expr : goal.decreases-expr
decreases-expr l = 2 * l.depth

abbrev pub decreases-operator : goal.decreases-operator
decreases-operator l = 2 * l.depth + 1

abbrev pub decreases-call : goal.decreases-call
decreases-call l = 2 * l.depth + 1
