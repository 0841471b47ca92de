use Rattle.std.proofs.Common.{◌≡◌, ◌+◌, drop}
use Rattle.rb_exec.specs.Stages.{values_run}
use Rattle.rb_exec.proofs.Replies.{after}
use Rattle.rb_exec.proofs.Weight.{weight_of, weights_of, operands_of, invocation_of}
use Rattle.rb_exec.proofs.expressions.Scope.+evaluating.Given as goal

abbrev pub decreases-value_of : goal.decreases-value_of
decreases-value_of l = weight_of l.expr.now

abbrev pub decreases-unary_value : goal.decreases-unary_value
decreases-unary_value l = weight_of l.a.now + 2

abbrev pub decreases-operand_of : goal.decreases-operand_of
decreases-operand_of l = weight_of l.expr.now + 1

abbrev pub decreases-operator_value : goal.decreases-operator_value
decreases-operator_value l = operands_of l.operands.now + 2

abbrev pub decreases-binary_value : goal.decreases-binary_value
decreases-binary_value l = operands_of l.operands.now + 3

abbrev pub decreases-call_value : goal.decreases-call_value
decreases-call_value l = invocation_of l.call.now + 2

abbrev pub decreases-values_of : goal.decreases-values_of
decreases-values_of l = weights_of l.exprs.now + 1

abbrev pub invariant-values_of-exprs : goal.invariant-values_of-exprs
invariant-values_of-exprs l =
    after l.values (values_run l.self (drop l.expr-index l.exprs) l.server) ≡ values_run l.self l.exprs l.fn.server
