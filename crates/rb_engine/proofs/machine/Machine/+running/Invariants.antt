use Rattle.std.proofs.Common.{◌≡◌, ℕ, ◌≤◌, suc, ◌+◌, max, drop, map}
use Rattle.rb_trees.specs.mirror.Code.{mirror_expr, mirror_exprs, mirror_stmt, mirror_stmts}
use Rattle.rb_trees.specs.mirror.Declarations.{mirror_class, mirror_body}
use Rattle.rb_engine.proofs.Weight.{room, expr_weight, exprs_weight, stmt_weight, stmts_weight, body_weight}
use Rattle.rb_meaning_code.specs.Statements.{block, while_turns}
use Rattle.rb_engine.specs.Code.{value_run, values_run, stmts_run, turns_run}
use Rattle.rb_engine.specs.Locals.{local}
use Rattle.rb_engine.specs.Machines.{Keeps}
use Rattle.rb_engine.specs.Meets.{scene}
use Rattle.rb_engine.specs.Worlds.{asks}
use Rattle.rb_engine.proofs.Runs.{LeadsOn}
use Rattle.rb_engine.proofs.Loops.{after, as_is}
use Rattle.rb_engine.proofs.machine.Machine.+running.Given as goal

abbrev pub decreases-value_of : goal.decreases-value_of
decreases-value_of g l = room (map mirror_class l.self.now.code.now) l.self.now.state.now.depth + expr_weight (mirror_expr l.expr.now)

abbrev pub decreases-operand_of : goal.decreases-operand_of
decreases-operand_of g l = room (map mirror_class l.self.now.code.now) l.self.now.state.now.depth + expr_weight (mirror_expr l.expr.now) + 1

abbrev pub decreases-operator_value : goal.decreases-operator_value
decreases-operator_value g l = room (map mirror_class l.self.now.code.now) l.self.now.state.now.depth + max (expr_weight (mirror_expr l.a.now)) (expr_weight (mirror_expr l.b.now)) + 2

abbrev pub decreases-binary_value : goal.decreases-binary_value
decreases-binary_value g l = room (map mirror_class l.self.now.code.now) l.self.now.state.now.depth + max (expr_weight (mirror_expr l.a.now)) (expr_weight (mirror_expr l.b.now)) + 3

abbrev pub decreases-unary_value : goal.decreases-unary_value
decreases-unary_value g l = room (map mirror_class l.self.now.code.now) l.self.now.state.now.depth + expr_weight (mirror_expr l.a.now) + 2

abbrev pub decreases-field_value : goal.decreases-field_value
decreases-field_value g l = room (map mirror_class l.self.now.code.now) l.self.now.state.now.depth + expr_weight (mirror_expr l.a.now) + 2

abbrev pub decreases-item_value : goal.decreases-item_value
decreases-item_value g l = room (map mirror_class l.self.now.code.now) l.self.now.state.now.depth + max (expr_weight (mirror_expr l.a.now)) (expr_weight (mirror_expr l.b.now)) + 2

abbrev pub decreases-new_value : goal.decreases-new_value
decreases-new_value g l = room (map mirror_class l.self.now.code.now) l.self.now.state.now.depth + exprs_weight (mirror_exprs l.args.now) + 2

abbrev pub decreases-list_value : goal.decreases-list_value
decreases-list_value g l = room (map mirror_class l.self.now.code.now) l.self.now.state.now.depth + exprs_weight (mirror_exprs l.items.now) + 2

abbrev pub decreases-run_binding : goal.decreases-run_binding
decreases-run_binding g l = room (map mirror_class l.self.now.code.now) l.self.now.state.now.depth + expr_weight (mirror_expr l.expr.now) + 1

abbrev pub decreases-run_expr : goal.decreases-run_expr
decreases-run_expr g l = room (map mirror_class l.self.now.code.now) l.self.now.state.now.depth + expr_weight (mirror_expr l.expr.now) + 1

abbrev pub decreases-run_print : goal.decreases-run_print
decreases-run_print g l = room (map mirror_class l.self.now.code.now) l.self.now.state.now.depth + expr_weight (mirror_expr l.expr.now) + 2

abbrev pub decreases-run_throw : goal.decreases-run_throw
decreases-run_throw g l = room (map mirror_class l.self.now.code.now) l.self.now.state.now.depth + expr_weight (mirror_expr l.expr.now) + 2

abbrev pub decreases-truth_at : goal.decreases-truth_at
decreases-truth_at g l = room (map mirror_class l.self.now.code.now) l.self.now.state.now.depth + expr_weight (mirror_expr l.condition.now) + 2

abbrev pub decreases-run_if : goal.decreases-run_if
decreases-run_if g l = room (map mirror_class l.self.now.code.now) l.self.now.state.now.depth + max (expr_weight (mirror_expr l.condition.now)) (max (stmts_weight (mirror_stmts l.yes.now)) (stmts_weight (mirror_stmts l.no.now))) + 3

abbrev pub decreases-called_value : goal.decreases-called_value
decreases-called_value g l = room (map mirror_class l.self.now.code.now) l.self.now.state.now.depth + max (expr_weight (mirror_expr l.receiver.now)) (exprs_weight (mirror_exprs l.args.now)) + 3

abbrev pub decreases-values_of : goal.decreases-values_of
decreases-values_of g l = room (map mirror_class l.self.now.code.now) l.self.now.state.now.depth + exprs_weight (mirror_exprs l.exprs.now) + 1

abbrev pub decreases-args_of : goal.decreases-args_of
decreases-args_of g l = room (map mirror_class l.self.now.code.now) l.self.now.state.now.depth + exprs_weight (mirror_exprs l.exprs.now) + 1

abbrev pub decreases-call_method : goal.decreases-call_method
decreases-call_method g l = room (map mirror_class l.self.now.code.now) l.self.now.state.now.depth + 2

abbrev pub decreases-run_call : goal.decreases-run_call
decreases-run_call g l = room (map mirror_class l.self.now.code.now) l.self.now.state.now.depth + 1

abbrev pub decreases-run_body : goal.decreases-run_body
decreases-run_body g l = room (map mirror_class l.self.now.code.now) l.self.now.state.now.depth + body_weight (mirror_body l.body.now)

abbrev pub decreases-run_all : goal.decreases-run_all
decreases-run_all g l = room (map mirror_class l.self.now.code.now) l.self.now.state.now.depth + stmts_weight (mirror_stmts l.stmts.now) + 1

abbrev pub decreases-run_scope : goal.decreases-run_scope
decreases-run_scope g l = room (map mirror_class l.self.now.code.now) l.self.now.state.now.depth + stmts_weight (mirror_stmts l.stmts.now) + 2

abbrev pub decreases-run_stmt : goal.decreases-run_stmt
decreases-run_stmt g l = room (map mirror_class l.self.now.code.now) l.self.now.state.now.depth + stmt_weight (mirror_stmt l.stmt.now)

abbrev pub decreases-assign : goal.decreases-assign
decreases-assign g l = room (map mirror_class l.self.now.code.now) l.self.now.state.now.depth + max (expr_weight (mirror_expr l.left.now)) (expr_weight (mirror_expr l.right.now)) + 1

abbrev pub decreases-run_while : goal.decreases-run_while
decreases-run_while g l = room (map mirror_class l.self.now.code.now) l.self.now.state.now.depth + max (expr_weight (mirror_expr l.condition.now)) (stmts_weight (mirror_stmts l.block.now)) + 3

abbrev pub decreases-run_for : goal.decreases-run_for
decreases-run_for g l = room (map mirror_class l.self.now.code.now) l.self.now.state.now.depth + max (expr_weight (mirror_expr l.list.now)) (stmts_weight (mirror_stmts l.block.now)) + 4

abbrev pub decreases-run_turns : goal.decreases-run_turns
decreases-run_turns g l = room (map mirror_class l.self.now.code.now) l.self.now.state.now.depth + stmts_weight (mirror_stmts l.block.now) + 3

abbrev pub decreases-run_try : goal.decreases-run_try
decreases-run_try g l = room (map mirror_class l.self.now.code.now) l.self.now.state.now.depth + max (stmts_weight (mirror_stmts l.tried.now)) (stmts_weight (mirror_stmts l.handler.now)) + 3

abbrev pub decreases-run_while-turns : goal.decreases-run_while-turns
decreases-run_while-turns g l = l.self.state.now.fuel

abbrev pub invariant-values_of-exprs : goal.invariant-values_of-exprs
invariant-values_of-exprs g l = record {
  same : Keeps l.fn.self l.self;
  depth : l.self.state.now.depth ≡ l.fn.self.state.now.depth;
  leads : LeadsOn (asks g.W.World) (λ gas. values_run l.fn.self.code.now l.exprs gas (local l.frame l.fn.self.state.now)) (scene l.frame l.fn.self.state.now l.fn.self.world.now) (λ gas. values_run l.fn.self.code.now (drop l.expr-index l.exprs) gas (local l.frame l.self.state.now)) (scene l.frame l.self.state.now l.self.world.now) (after l.values);
}

abbrev pub invariant-args_of-exprs : goal.invariant-args_of-exprs
invariant-args_of-exprs g l = record {
  same : Keeps l.fn.self l.self;
  depth : l.self.state.now.depth ≡ l.fn.self.state.now.depth;
  leads : LeadsOn (asks g.W.World) (λ gas. values_run l.fn.self.code.now l.exprs gas (local l.frame l.fn.self.state.now)) (scene l.frame l.fn.self.state.now l.fn.self.world.now) (λ gas. values_run l.fn.self.code.now (drop l.expr-index l.exprs) gas (local l.frame l.self.state.now)) (scene l.frame l.self.state.now l.self.world.now) (after l.values);
}

abbrev pub invariant-run_all-stmts : goal.invariant-run_all-stmts
invariant-run_all-stmts g l = record {
  same : Keeps l.fn.self l.self;
  depth : l.self.state.now.depth ≡ l.fn.self.state.now.depth;
  leads : LeadsOn (asks g.W.World) (λ gas. stmts_run l.fn.self.code.now l.stmts gas (local l.fn.frame l.fn.self.state.now)) (scene l.fn.frame l.fn.self.state.now l.fn.self.world.now) (λ gas. stmts_run l.fn.self.code.now (drop l.stmt-index l.stmts) gas (local l.frame l.self.state.now)) (scene l.frame l.self.state.now l.self.world.now) as_is;
}

abbrev pub invariant-run_while-turns : goal.invariant-run_while-turns
invariant-run_while-turns g l = record {
  same : Keeps l.fn.self l.self;
  depth : l.self.state.now.depth ≡ l.fn.self.state.now.depth;
  fuel : l.self.state.now.fuel ≤ l.fn.self.state.now.fuel;
  leads : (gas : ℕ) → l.fn.self.state.now.fuel ≤ gas → (m : ℕ) × (l.self.state.now.fuel ≤ m) × LeadsOn (asks g.W.World) (λ any. while_turns (suc gas) l.at (value_run l.fn.self.code.now l.condition gas) (block (stmts_run l.fn.self.code.now l.block gas)) (local l.fn.frame l.fn.self.state.now)) (scene l.fn.frame l.fn.self.state.now l.fn.self.world.now) (λ any. while_turns (suc m) l.at (value_run l.fn.self.code.now l.condition gas) (block (stmts_run l.fn.self.code.now l.block gas)) (local l.frame l.self.state.now)) (scene l.frame l.self.state.now l.self.world.now) as_is;
}

abbrev pub invariant-run_turns-turns : goal.invariant-run_turns-turns
invariant-run_turns-turns g l = record {
  same : Keeps l.fn.self l.self;
  depth : l.self.state.now.depth ≡ l.fn.self.state.now.depth;
  leads : LeadsOn (asks g.W.World) (λ gas. turns_run l.fn.self.code.now l.turns l.at l.name l.values l.block gas (local l.fn.frame l.fn.self.state.now)) (scene l.fn.frame l.fn.self.state.now l.fn.self.world.now) (λ gas. turns_run l.fn.self.code.now l.turns l.at l.name (drop l.value-index l.values) l.block gas (local l.frame l.self.state.now)) (scene l.frame l.self.state.now l.self.world.now) as_is;
}
