-- An operator on two operands gives what its form means.
use Rattle.rb_exec.proofs.Forms.{binary_form}
use Rattle.rb_exec.proofs.Replies.{of_form}
use Rattle.rb_exec.proofs.expressions.Scope.condition_of.Goals as goal

pub returns-in-Binary : goal.returns-in-Binary
returns-in-Binary c = of_form c.args.self.now c.args.server.now c.args.expr.now (binary_form c.args.expr.now _ c.in-Binary.is) (rw (← c.get.ensures) c.operator_value.ensures)
