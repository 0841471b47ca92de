-- Each form of an expression gives what it means.
use Rattle.std.proofs.Common.{refl, arith, ap, sym, ◌∙◌}
use Rattle.std.specs.Prelude.{Ok}
use Rattle.std.specs.Option.{option_copied}
use Rattle.rb_meaning_code.specs.Remote.{Got}
use Rattle.rb_exec.proofs.Forms.{lit_form, input_form, var_form, root_form, unary_form, binary_form, call_form}
use Rattle.rb_exec.proofs.LentRuns.{lent_run}
use Rattle.rb_exec.proofs.Replies.{by_result, given, ruled, of_form}
use Rattle.rb_exec.proofs.Weight.{expr_weight, weight_of, operands_of, invocation_of, expr_in}
use Rattle.rb_exec.proofs.expressions.Scope.+evaluating.Goals as goal

pub value_of-unary_value-requires : goal.value_of-unary_value-requires
value_of-unary_value-requires t c = let w = ap expr_weight (unary_form c.args.expr.now c.in-Unary.a c.in-Unary.is) in let e = ap weight_of c.get-in-Unary.ensures in omega arith

pub value_of-binary_value-requires : goal.value_of-binary_value-requires
value_of-binary_value-requires t c = let w = ap expr_weight (binary_form c.args.expr.now c.in-Binary.operands c.in-Binary.is) in let e = ap operands_of c.get-in-Binary.ensures in omega arith

pub value_of-call_value-requires : goal.value_of-call_value-requires
value_of-call_value-requires t c = let w = ap expr_weight (call_form c.args.expr.now c.in-Call.call c.in-Call.is) in let e = ap invocation_of c.get-in-Call.ensures in omega arith

pub value_of-returns-in_ok-copy_value-in-Lit : goal.value_of-returns-in_ok-copy_value-in-Lit
value_of-returns-in_ok-copy_value-in-Lit t c =
    of_form c.args.self.now c.args.server.now c.args.expr.now (lit_form c.args.expr.now c.in-Lit.is) (given (ap (λ v. Got v c.args.server.now) (sym c.get.ensures ∙ sym c.in_ok-copy_value-in-Lit.ensures)))

pub value_of-returns-in-Input : goal.value_of-returns-in-Input
value_of-returns-in-Input t c = of_form c.args.self.now c.args.server.now c.args.expr.now (input_form c.args.expr.now c.in-Input.is) (ruled c.args.self.now.site.at _ _ c.input.ensures c.at_place.ensures)

pub value_of-returns-in-Var : goal.value_of-returns-in-Var
value_of-returns-in-Var t c = of_form c.args.self.now c.args.server.now c.args.expr.now (var_form c.args.expr.now c.in-Var.is) (ruled c.args.self.now.site.at _ _ c.variable.ensures c.at_place-in-Var.ensures)

pub value_of-returns-in-Root : goal.value_of-returns-in-Root
value_of-returns-in-Root t c = of_form c.args.self.now c.args.server.now c.args.expr.now (root_form c.args.expr.now c.in-Root.is) (given refl)

pub value_of-returns-in-Unary : goal.value_of-returns-in-Unary
value_of-returns-in-Unary t c = of_form c.args.self.now c.args.server.now c.args.expr.now (unary_form c.args.expr.now _ c.in-Unary.is) (rw (← c.get-in-Unary.ensures) c.unary_value.ensures)

pub value_of-returns-in-Binary : goal.value_of-returns-in-Binary
value_of-returns-in-Binary t c = of_form c.args.self.now c.args.server.now c.args.expr.now (binary_form c.args.expr.now _ c.in-Binary.is) (rw (← c.get-in-Binary.ensures) c.binary_value.ensures)

pub value_of-returns-in-Call : goal.value_of-returns-in-Call
value_of-returns-in-Call t c = of_form c.args.self.now c.args.server.now c.args.expr.now (call_form c.args.expr.now _ c.in-Call.is) (rw (← c.get-in-Call.ensures) c.call_value.ensures)

pub operand_of-returns-in-Some : goal.operand_of-returns-in-Some
operand_of-returns-in-Some t c =
    by_result (ap Ok c.lent-in-Some.ensures) (lent_run c.args.self.now c.args.expr.now c.args.server.now c.in-Some.value.now (sym c.lent.ensures ∙ ap option_copied c.in-Some.is))

pub values_of-value_of-requires : goal.values_of-value_of-requires
values_of-value_of-requires t c = let w = expr_in c.args.exprs.now c.exprs.expr-index c.expr-item.result (omega arith) in let e = ap weight_of c.expr-item.is in omega arith
