-- How each step of the engine follows what code means.
use Rattle.std.proofs.Common.{rules, arith, ap, sym, ◌∙◌, Ok, Err, ◌≡◌, refl, [], ◌∷◌, map, append-nil}
use Rattle.std.specs.Option.{option_copied, option_map}
use Rattle.rb_engine.specs.declared.ends.End.TheVariants.{NoMemory}
use Rattle.rb_trees.specs.declared.values.Value.{out-Value}
use Rattle.rb_trees.specs.mirror.Code.{mirror_expr}
use Rattle.rb_trees.specs.mirror.Declarations.{mirror_class, mirror_method, mirror_body}
use Rattle.rb_meaning_code.specs.State.{spent}
use Rattle.rb_meaning_code.specs.Statements.{either, truth_of, block, while_turns}
use Rattle.rb_engine.specs.Code.{bodies, value_run, stmts_run}
use Rattle.rb_engine.specs.Locals.{local}
use Rattle.rb_engine.proofs.Additions.{sum_cut, sum_gave}
use Rattle.rb_engine.proofs.Blocks.{by_its_truth, call_returns, try_fine, try_passed, try_handled, while_false, while_true, while_fails, unit_taken, unit_wasted, unit_missing, turn_more}
use Rattle.rb_engine.proofs.Forms.{lit_form, name_form, this_form, unary_form, binary_form, field_form, call_form, index_form, new_form, items_form, taken_form, val_form, var_form, assign_form, run_form, print_form, throw_form, if_form, while_form, for_form, try_form, batch_form}
use Rattle.rb_engine.proofs.Lent.{lent_run}
use Rattle.rb_engine.proofs.Loops.{leads_to_itself, values_begin, leads_far, one_value, no_value, no_more_values, with_value, one_effect, no_effect, no_more_effects, plain_block, bound_block, one_turn, no_turn, half_turn, no_more_turns}
use Rattle.rb_engine.proofs.Parts.{expr_run, truth_by_form, statement_run, remote_called, own_called, turns_by_form, name_written, field_written, nothing_assigned, fuel_left, depth_left}
use Rattle.rb_engine.proofs.Runs.{gave, cut, at_run, by_result, ended, no_memory, sequel_of_stop, fixed, unfixed}
use Rattle.rb_engine.proofs.Steps.{ok_means, helped, unhelped, unhelped_at, helped_end, ended_by, changed, given, bound_after, closes_after, want}
use Rattle.rb_engine.proofs.Kept.{kept_itself, kept_on, room_kept}
use Rattle.rb_engine.proofs.Weight.{expr_weight, stmt_weight, body_weight, weight_of, weights_of, effect_of, effects_of, expr_in, stmt_in, object_light, method_called_of, found_light, room_falls, result_weight}
use Rattle.rb_engine.proofs.machine.Machine.+running.Goals as goal

pub value_of-binary_value-requires : goal.value_of-binary_value-requires
value_of-binary_value-requires g t c κs within = (let w = ap expr_weight (binary_form c.args.expr.now c.in-Binary.a c.in-Binary.b c.in-Binary.is) in let e = ap weight_of c.get-in-Binary.ensures in let f = ap weight_of c.get-in-Binary-2.ensures in omega arith, within)

pub value_of-returns-in-Binary-clause-runs : goal.value_of-returns-in-Binary-clause-runs
value_of-returns-in-Binary-clause-runs g t c = expr_run _ c.args.expr.now (binary_form c.args.expr.now _ _ c.in-Binary.is) (rw (← c.get-in-Binary.ensures, ← c.get-in-Binary-2.ensures) c.binary_value.ensures.runs)

pub value_of-called_value-requires : goal.value_of-called_value-requires
value_of-called_value-requires g t c κs within = (let w = ap expr_weight (call_form c.args.expr.now c.in-Call.receiver c.in-Call.args c.in-Call.is) in let e = ap weight_of c.get-in-Call.ensures in omega arith, within)

pub value_of-returns-in-Call-clause-runs : goal.value_of-returns-in-Call-clause-runs
value_of-returns-in-Call-clause-runs g t c = expr_run _ c.args.expr.now (call_form c.args.expr.now _ _ c.in-Call.is) (rw (← c.get-in-Call.ensures) c.called_value.ensures.runs)

pub value_of-returns-in-Lit-clause-runs : goal.value_of-returns-in-Lit-clause-runs
value_of-returns-in-Lit-clause-runs g t c = expr_run _ c.args.expr.now (lit_form c.args.expr.now c.in-Lit.is) (given _ _ (λ gas. refl) c.copied.ensures refl refl (omega arith) refl)

pub value_of-returns-in-Name-clause-runs : goal.value_of-returns-in-Name-clause-runs
value_of-returns-in-Name-clause-runs g t c = expr_run _ c.args.expr.now (name_form c.args.expr.now c.in-Name.is) (helped_end _ _ _ c.named_value.ensures.gives c.named_value.ensures.lifts)

pub value_of-returns-in-This-clause-runs : goal.value_of-returns-in-This-clause-runs
value_of-returns-in-This-clause-runs g t c = expr_run _ c.args.expr.now (this_form c.args.expr.now c.in-This.is) (helped_end _ _ _ c.this_value.ensures.gives c.this_value.ensures.lifts)

pub value_of-returns-in-Taken-clause-runs : goal.value_of-returns-in-Taken-clause-runs
value_of-returns-in-Taken-clause-runs g t c = expr_run _ c.args.expr.now (taken_form c.args.expr.now c.in-Taken.is) (c.taken.ensures.runs c.args.frame.now)

pub value_of-unary_value-requires : goal.value_of-unary_value-requires
value_of-unary_value-requires g t c κs within = (let w = ap expr_weight (unary_form c.args.expr.now c.in-Unary.a c.in-Unary.is) in let e = ap weight_of c.get.ensures in omega arith, within)

pub value_of-returns-in-Unary-clause-runs : goal.value_of-returns-in-Unary-clause-runs
value_of-returns-in-Unary-clause-runs g t c = expr_run _ c.args.expr.now (unary_form c.args.expr.now _ c.in-Unary.is) (rw (← c.get.ensures) c.unary_value.ensures.runs)

pub value_of-field_value-requires : goal.value_of-field_value-requires
value_of-field_value-requires g t c κs within = (let w = ap expr_weight (field_form c.args.expr.now c.in-Field.a c.in-Field.is) in let e = ap weight_of c.get-in-Field.ensures in omega arith, within)

pub value_of-returns-in-Field-clause-runs : goal.value_of-returns-in-Field-clause-runs
value_of-returns-in-Field-clause-runs g t c = expr_run _ c.args.expr.now (field_form c.args.expr.now _ c.in-Field.is) (rw (← c.get-in-Field.ensures) c.field_value.ensures.runs)

pub value_of-item_value-requires : goal.value_of-item_value-requires
value_of-item_value-requires g t c κs within = (let w = ap expr_weight (index_form c.args.expr.now c.in-Index.a c.in-Index.b c.in-Index.is) in let e = ap weight_of c.get-in-Index.ensures in let f = ap weight_of c.get-in-Index-2.ensures in omega arith, within)

pub value_of-returns-in-Index-clause-runs : goal.value_of-returns-in-Index-clause-runs
value_of-returns-in-Index-clause-runs g t c = expr_run _ c.args.expr.now (index_form c.args.expr.now _ _ c.in-Index.is) (rw (← c.get-in-Index.ensures, ← c.get-in-Index-2.ensures) c.item_value.ensures.runs)

pub value_of-new_value-requires : goal.value_of-new_value-requires
value_of-new_value-requires g t c κs within = (let w = ap expr_weight (new_form c.args.expr.now c.in-New.args c.in-New.is) in omega arith, within)

pub value_of-returns-in-New-clause-runs : goal.value_of-returns-in-New-clause-runs
value_of-returns-in-New-clause-runs g t c = expr_run _ c.args.expr.now (new_form c.args.expr.now _ c.in-New.is) c.new_value.ensures.runs

pub value_of-list_value-requires : goal.value_of-list_value-requires
value_of-list_value-requires g t c κs within = (let w = ap expr_weight (items_form c.args.expr.now _ c.in-Items.items c.in-Items.is) in omega arith, within)

pub value_of-returns-in-Items-clause-runs : goal.value_of-returns-in-Items-clause-runs
value_of-returns-in-Items-clause-runs g t c = expr_run _ c.args.expr.now (items_form c.args.expr.now _ _ c.in-Items.is) c.list_value.ensures.runs

pub operand_of-returns-in-Some-clause-runs : goal.operand_of-returns-in-Some-clause-runs
operand_of-returns-in-Some-clause-runs g t c = by_result (ap Ok c.lent-in-Some.ensures) (lent_run c.args.self.now.code.now c.args.expr.now c.in-Some.value.now (sym c.lent.ensures ∙ ap option_copied c.in-Some.is))

pub operand_of-returns-in_err-value-in-None-clause-runs : goal.operand_of-returns-in_err-value-in-None-clause-runs
operand_of-returns-in_err-value-in-None-clause-runs g t c = by_result (search rules) (by_result (sym c.in_err-value-in-None.was) c.value_of.ensures.runs)

pub operand_of-returns-in_ok-value-in-None-clause-runs : goal.operand_of-returns-in_ok-value-in-None-clause-runs
operand_of-returns-in_ok-value-in-None-clause-runs g t c = by_result (ap Ok c.made.ensures ∙ sym c.in_ok-value-in-None.was) c.value_of.ensures.runs

pub unary_value-returns-in_err-value-clause-runs : goal.unary_value-returns-in_err-value-clause-runs
unary_value-returns-in_err-value-clause-runs g t c = cut _ c.operand_of.ensures.runs c.in_err-value.was (search rules)

pub unary_value-returns-clause-runs : goal.unary_value-returns-clause-runs
unary_value-returns-clause-runs g t c = gave _ c.operand_of.ensures.runs c.in_ok-value.was (helped_end _ _ _ (rw c.get.ensures at c.on_one.ensures.gives) c.lift.ensures)

pub operator_value-returns-in_err-left-clause-runs : goal.operator_value-returns-in_err-left-clause-runs
operator_value-returns-in_err-left-clause-runs g t c = cut _ c.operand_of.ensures.runs c.in_err-left.was (search rules)

pub operator_value-returns-in_err-decided-clause-runs : goal.operator_value-returns-in_err-decided-clause-runs
operator_value-returns-in_err-decided-clause-runs g t c = gave _ c.operand_of.ensures.runs c.in_ok-left.was (unhelped (λ v. v) c.args.at c.by_left.result _ _ (rw c.get.ensures at c.by_left.ensures.gives) c.lift.ensures c.in_err-decided.was (search rules))

pub operator_value-returns-in-Some-clause-runs : goal.operator_value-returns-in-Some-clause-runs
operator_value-returns-in-Some-clause-runs g t c = gave _ c.operand_of.ensures.runs c.in_ok-left.was (helped (λ v. v) c.args.at c.by_left.result _ _ _ (rw c.get.ensures at c.by_left.ensures.gives) c.lift.ensures (c.in_ok-decided.was ∙ ap Ok c.in-Some.is) (ended _))

pub operator_value-operand_of-requires-in-None : goal.operator_value-operand_of-requires-in-None
operator_value-operand_of-requires-in-None g t c κs within = (let d = room_kept c.operand_of.ensures.same c.operand_of.ensures.runs.depth in omega arith, within)

pub operator_value-returns-in_err-right-in-None-clause-runs : goal.operator_value-returns-in_err-right-in-None-clause-runs
operator_value-returns-in_err-right-in-None-clause-runs g t c = gave _ c.operand_of.ensures.runs c.in_ok-left.was (helped (λ v. v) c.args.at c.by_left.result _ _ _ (rw c.get.ensures at c.by_left.ensures.gives) c.lift.ensures (c.in_ok-decided.was ∙ ap Ok c.in-None.is) (cut _ (rw c.operand_of.ensures.same.code at c.operand_of-in-None.ensures.runs) c.in_err-right-in-None.was (search rules)))

pub operator_value-returns-clause-runs : goal.operator_value-returns-clause-runs
operator_value-returns-clause-runs g t c = gave _ c.operand_of.ensures.runs c.in_ok-left.was (helped (λ v. v) c.args.at c.by_left.result _ _ _ (rw c.get.ensures at c.by_left.ensures.gives) c.lift.ensures (c.in_ok-decided.was ∙ ap Ok c.in-None.is) (gave _ (rw c.operand_of.ensures.same.code at c.operand_of-in-None.ensures.runs) c.in_ok-right-in-None.was (helped_end _ _ _ (rw (c.get-in-None.ensures, c.get-in-None-2.ensures) at c.on_two.ensures.gives) c.lift-in-None.ensures)))

pub field_value-returns-in_err-object-clause-runs : goal.field_value-returns-in_err-object-clause-runs
field_value-returns-in_err-object-clause-runs g t c = cut _ c.operand_of.ensures.runs c.in_err-object.was (search rules)

pub field_value-returns-clause-runs : goal.field_value-returns-clause-runs
field_value-returns-clause-runs g t c = gave _ c.operand_of.ensures.runs c.in_ok-object.was (rw (← c.as_slice.ensures) (helped_end _ _ _ (rw c.get.ensures at c.read_field.ensures) c.lift.ensures))

pub item_value-returns-in_err-list-clause-runs : goal.item_value-returns-in_err-list-clause-runs
item_value-returns-in_err-list-clause-runs g t c = cut _ c.operand_of.ensures.runs c.in_err-list.was (search rules)

pub item_value-operand_of-requires-2 : goal.item_value-operand_of-requires-2
item_value-operand_of-requires-2 g t c κs within = (let d = room_kept c.operand_of.ensures.same c.operand_of.ensures.runs.depth in omega arith, within)

pub item_value-returns-in_err-index-clause-runs : goal.item_value-returns-in_err-index-clause-runs
item_value-returns-in_err-index-clause-runs g t c = gave _ c.operand_of.ensures.runs c.in_ok-list.was (cut _ (rw c.operand_of.ensures.same.code at c.operand_of-2.ensures.runs) c.in_err-index.was (search rules))

pub item_value-returns-clause-runs : goal.item_value-returns-clause-runs
item_value-returns-clause-runs g t c = gave _ c.operand_of.ensures.runs c.in_ok-list.was (gave _ (rw c.operand_of.ensures.same.code at c.operand_of-2.ensures.runs) c.in_ok-index.was (helped_end _ _ _ (rw (c.get.ensures, c.get-2.ensures) at c.item_of.ensures) c.lift.ensures))

pub new_value-values_of-requires : goal.new_value-values_of-requires
new_value-values_of-requires g t c κs within = (let e = ap weights_of c.as_slice.ensures in omega arith, within)

pub new_value-returns-in_err-fields-clause-runs : goal.new_value-returns-in_err-fields-clause-runs
new_value-returns-in_err-fields-clause-runs g t c = rw (← c.as_slice.ensures) (cut _ c.values_of.ensures.runs c.in_err-fields.was (search rules))

pub new_value-returns-clause-runs : goal.new_value-returns-clause-runs
new_value-returns-clause-runs g t c = rw (← c.as_slice.ensures) (gave _ c.values_of.ensures.runs c.in_ok-fields.was (changed (λ v. (v, c.construct.new.heap)) _ _ _ (λ heap. record (local c.args.frame.now c.values_of.new.self.state.now) { heap = heap }) c.values_of.new.self.state.now.heap c.construct.new.heap _ refl refl refl (λ a. refl) (rw c.values_of.ensures.same.code at c.construct.ensures.gives) c.construct.ensures.kept c.lift.ensures))

pub list_value-values_of-requires : goal.list_value-values_of-requires
list_value-values_of-requires g t c κs within = (let e = ap weights_of c.as_slice.ensures in omega arith, within)

pub list_value-returns-in_err-values-clause-runs : goal.list_value-returns-in_err-values-clause-runs
list_value-returns-in_err-values-clause-runs g t c = rw (← c.as_slice.ensures) (cut _ c.values_of.ensures.runs c.in_err-values.was (search rules))

pub list_value-returns-clause-runs : goal.list_value-returns-clause-runs
list_value-returns-clause-runs g t c = rw (← c.as_slice.ensures) (gave _ c.values_of.ensures.runs c.in_ok-values.was (helped_end _ _ _ c.list_of.ensures c.lift.ensures))

pub called_value-returns-in_err-target-clause-runs : goal.called_value-returns-in_err-target-clause-runs
called_value-returns-in_err-target-clause-runs g t c = cut _ c.operand_of.ensures.runs c.in_err-target.was (search rules)

pub called_value-returns-in_err-values-clause-runs : goal.called_value-returns-in_err-values-clause-runs
called_value-returns-in_err-values-clause-runs g t c = rw (← c.as_slice.ensures) (gave _ c.operand_of.ensures.runs c.in_ok-target.was (cut _ (rw c.operand_of.ensures.same.code at c.values_of.ensures.runs) c.in_err-values.was (search rules)))

pub called_value-returns-then-is_remote-clause-runs : goal.called_value-returns-then-is_remote-clause-runs
called_value-returns-then-is_remote-clause-runs g t c = rw (← c.as_slice.ensures) (gave _ c.operand_of.ensures.runs c.in_ok-target.was (gave _ (rw c.operand_of.ensures.same.code at c.values_of.ensures.runs) c.in_ok-values.was (at_run (λ gas. remote_called (bodies c.args.self.now.code.now gas) c.args.at c.in_ok-target.target (out-Value c.in_ok-target.target) c.args.name.now c.in_ok-values.values (local c.args.frame.now c.values_of.new.self.state.now) (rw c.get.ensures at (sym c.is_remote.ensures ∙ c.if-is_remote.true))) (rw (← c.as_slice-then-is_remote.ensures, ← c.get-then-is_remote.ensures) (c.invoke.ensures.runs c.args.frame.now)))))

pub called_value-returns-in_err-values-2-clause-runs : goal.called_value-returns-in_err-values-2-clause-runs
called_value-returns-in_err-values-2-clause-runs g t c = rw (← c.as_slice-2.ensures) (gave _ c.operand_of.ensures.runs c.in_ok-target.was (cut _ (rw c.operand_of.ensures.same.code at c.args_of.ensures.runs) c.in_err-values-2.was (search rules)))

pub called_value-returns-clause-runs : goal.called_value-returns-clause-runs
called_value-returns-clause-runs g t c = rw (← c.as_slice-2.ensures) (gave _ c.operand_of.ensures.runs c.in_ok-target.was (gave _ (rw c.operand_of.ensures.same.code at c.args_of.ensures.runs) c.in_ok-values-2.was (at_run (λ gas. own_called (bodies c.args.self.now.code.now gas) c.args.at c.in_ok-target.target (out-Value c.in_ok-target.target) c.args.name.now c.in_ok-values-2.values (local c.args.frame.now c.args_of.new.self.state.now) (rw c.get.ensures at (sym c.is_remote.ensures ∙ c.if-is_remote.false))) (rw (← c.as_slice-3.ensures, ← c.get-2.ensures) (rw (c.args_of.ensures.same.code, c.operand_of.ensures.same.code) at (c.call_method.ensures.runs c.args.frame.now))))))

pub values_of-exprs-init : goal.values_of-exprs-init
values_of-exprs-init g t c = record { same = kept_itself; depth = refl; leads = rw c.new-values.ensures values_begin }

pub values_of-value_of-requires : goal.values_of-value_of-requires
values_of-value_of-requires g t c κs within = (let w = expr_in c.args.exprs.now c.exprs.expr-index c.expr-item.result (omega arith) in let e = ap weight_of c.expr-item.is in let d = room_kept c.exprs.invariant.same c.exprs.invariant.depth in omega arith, within)

pub values_of-returns-in_err-value-clause-runs : goal.values_of-returns-in_err-value-clause-runs
values_of-returns-in_err-value-clause-runs g t c = by_result (search rules) (c.exprs.invariant.leads.by (Err c.in_err-value.field-0.0) _ (no_value c.args.self.now.code.now c.args.exprs.now c.exprs.expr-index c.expr-item.result (omega arith) c.expr-item.is (rw c.exprs.invariant.same.code at c.value_of.ensures.runs) c.in_err-value.was))

pub values_of-returns-in_err-add-clause-runs : goal.values_of-returns-in_err-add-clause-runs
values_of-returns-in_err-add-clause-runs g t c = by_result (want (search rules) c.in_err-add.ensures) (c.exprs.invariant.leads.by (Err NoMemory) _ (no_memory _ c.value_of.ensures.runs.fuel c.value_of.ensures.runs.depth))

pub values_of-exprs-preserved : goal.values_of-exprs-preserved
values_of-exprs-preserved g t c = record { same = kept_on c.exprs.invariant.same c.value_of.ensures.same; depth = c.value_of.ensures.runs.depth ∙ c.exprs.invariant.depth; leads = with_value c.exprs.values (c.in_ok-value.value ∷ []) _ (leads_far c.exprs.invariant.leads (one_value c.args.self.now.code.now c.args.exprs.now c.exprs.expr-index c.expr-item.result (omega arith) c.expr-item.is (rw c.exprs.invariant.same.code at c.value_of.ensures.runs) c.in_ok-value.was)) c.in_ok-add.ensures }

pub values_of-returns-clause-runs : goal.values_of-returns-clause-runs
values_of-returns-clause-runs g t c = by_result (ap Ok (sym (append-nil c.exprs.values))) (c.exprs.invariant.leads.by (Ok []) _ (no_more_values c.args.self.now.code.now c.args.exprs.now c.exprs.expr-index (omega arith)))

pub args_of-exprs-init : goal.args_of-exprs-init
args_of-exprs-init g t c = record { same = kept_itself; depth = refl; leads = rw c.in_ok-values.ensures values_begin }

pub args_of-value_of-requires : goal.args_of-value_of-requires
args_of-value_of-requires g t c κs within = (let w = expr_in c.args.exprs.now c.exprs.expr-index c.expr-item.result (omega arith) in let e = ap weight_of c.expr-item.is in let d = room_kept c.exprs.invariant.same c.exprs.invariant.depth in omega arith, within)

pub args_of-returns-in_err-value-clause-runs : goal.args_of-returns-in_err-value-clause-runs
args_of-returns-in_err-value-clause-runs g t c = by_result (search rules) (c.exprs.invariant.leads.by (Err c.in_err-value.field-0.0) _ (no_value c.args.self.now.code.now c.args.exprs.now c.exprs.expr-index c.expr-item.result (omega arith) c.expr-item.is (rw c.exprs.invariant.same.code at c.value_of.ensures.runs) c.in_err-value.was))

pub args_of-returns-in_err-add_arg-clause-runs : goal.args_of-returns-in_err-add_arg-clause-runs
args_of-returns-in_err-add_arg-clause-runs g t c = by_result (want (search rules) c.in_err-add_arg.ensures) (c.exprs.invariant.leads.by (Err NoMemory) _ (no_memory _ c.value_of.ensures.runs.fuel c.value_of.ensures.runs.depth))

pub args_of-exprs-preserved : goal.args_of-exprs-preserved
args_of-exprs-preserved g t c = record { same = kept_on c.exprs.invariant.same c.value_of.ensures.same; depth = c.value_of.ensures.runs.depth ∙ c.exprs.invariant.depth; leads = with_value c.exprs.values (c.in_ok-value.value ∷ []) _ (leads_far c.exprs.invariant.leads (one_value c.args.self.now.code.now c.args.exprs.now c.exprs.expr-index c.expr-item.result (omega arith) c.expr-item.is (rw c.exprs.invariant.same.code at c.value_of.ensures.runs) c.in_ok-value.was)) c.in_ok-add_arg.ensures }

pub args_of-returns-clause-runs : goal.args_of-returns-clause-runs
args_of-returns-clause-runs g t c = by_result (ap Ok (sym (append-nil c.exprs.values))) (c.exprs.invariant.leads.by (Ok []) _ (no_more_values c.args.self.now.code.now c.args.exprs.now c.exprs.expr-index (omega arith)))

pub call_method-returns-in_err-method-clause-runs : goal.call_method-returns-in_err-method-clause-runs
call_method-returns-in_err-method-clause-runs g t c = λ names. unhelped (λ m. mirror_method m.now) c.args.at c.called_method.result _ _ (rw c.len.ensures at c.called_method.ensures) c.lift.ensures c.in_err-method.was (search rules)

pub call_method-run_call-requires : goal.call_method-run_call-requires
call_method-run_call-requires g t c κs within = (omega arith, (within.0, (within.1, (let m = method_called_of (map mirror_class c.args.self.now.code.now) c.args.self.now.state.now.heap (out-Value c.args.receiver.now) c.args.name.now c.len.result (mirror_method c.in_ok-method.method.now) (ok_means (λ m. mirror_method m.now) c.args.at c.called_method.result c.lift.result _ c.in_ok-method.method c.called_method.ensures c.lift.ensures c.in_ok-method.was) in (c.args.self.now.state.now.heap, m.0, c.args.name.now, m.1)))))

pub call_method-returns-clause-runs : goal.call_method-returns-clause-runs
call_method-returns-clause-runs g t c = λ names. helped (λ m. mirror_method m.now) c.args.at c.called_method.result _ _ _ (rw c.len.ensures at c.called_method.ensures) c.lift.ensures c.in_ok-method.was (c.run_call.ensures.runs names)

pub run_call-returns-in_err-lift-clause-runs : goal.run_call-returns-in_err-lift-clause-runs
run_call-returns-in_err-lift-clause-runs g t c = λ names. (unhelped (λ u. u) c.args.at c.check_unit.result _ _ c.check_unit.ensures c.lift.ensures c.in_err-lift.was (search rules))

pub run_call-returns-in_err-lift-2-clause-runs : goal.run_call-returns-in_err-lift-2-clause-runs
run_call-returns-in_err-lift-2-clause-runs g t c = λ names. (helped (λ u. u) c.args.at c.check_unit.result _ _ _ c.check_unit.ensures c.lift.ensures c.in_ok-lift.was (unhelped_at (λ u. u) c.args.at c.check_depth.result _ (spent (local names c.args.self.now.state.now)) _ c.check_depth.ensures c.lift-2.ensures c.in_err-lift-2.was (search rules) (omega arith) refl))

pub run_call-returns-in_err-frame-clause-runs : goal.run_call-returns-in_err-frame-clause-runs
run_call-returns-in_err-frame-clause-runs g t c = λ names. by_result (want (search rules) c.in_err-frame.ensures) (no_memory _ (omega arith) refl)

pub run_call-run_body-result-requires : goal.run_call-run_body-result-requires
run_call-run_body-result-requires g t c κs within = (let deep = (depth_left c.args.at c.args.self.now.state.now.depth c.check_depth.result c.check_depth.ensures c.lift-2.ensures c.in_ok-lift-2.was) in let light = found_light (map mirror_class c.args.self.now.code.now) c.requires.0 c.requires.1 c.requires.2 (mirror_method c.args.method.now) c.requires.3 in let r = room_falls (map mirror_class c.args.self.now.code.now) c.args.self.now.state.now.depth (body_weight (mirror_body c.args.method.now.body)) deep light in omega arith, within)

pub run_call-returns-clause-runs : goal.run_call-returns-clause-runs
run_call-returns-clause-runs g t c = λ names. (helped (λ u. u) c.args.at c.check_unit.result _ _ _ c.check_unit.ensures c.lift.ensures c.in_ok-lift.was (helped (λ u. u) c.args.at c.check_depth.result _ _ _ c.check_depth.ensures c.lift-2.ensures c.in_ok-lift-2.was (call_returns c.args.self.now.code.now c.args.at c.args.method.now.body _ _ (rw c.as_slice.ensures at c.in_ok-frame.ensures) (fuel_left c.args.at c.args.self.now.state.now.fuel c.check_unit.result c.check_unit.ensures c.lift.ensures c.in_ok-lift.was) c.run_body-result.ensures.runs)))

pub run_body-run_all-requires : goal.run_body-run_all-requires
run_body-run_all-requires g t c κs within = (let e = ap effects_of c.as_slice.ensures in omega arith, within)

pub run_body-returns-in_err-run_all-clause-runs : goal.run_body-returns-in_err-run_all-clause-runs
run_body-returns-in_err-run_all-clause-runs g t c = rw (← c.as_slice.ensures) (cut _ c.run_all.ensures.runs c.in_err-run_all.was (search rules))

pub run_body-value_of-requires : goal.run_body-value_of-requires
run_body-value_of-requires g t c κs within = (let w : result_weight (option_map mirror_expr c.args.body.now.result) ≡ weight_of c.in-Some.expr = ap (λ o. result_weight (option_map mirror_expr o)) c.in-Some.is in let d = room_kept c.run_all.ensures.same c.run_all.ensures.runs.depth in omega arith, within)

pub run_body-returns-in-Some-clause-runs : goal.run_body-returns-in-Some-clause-runs
run_body-returns-in-Some-clause-runs g t c = rw (← c.as_slice.ensures, c.in-Some.is) (gave _ c.run_all.ensures.runs c.in_ok-run_all.was (rw c.run_all.ensures.same.code at c.value_of.ensures.runs))

pub run_body-returns-in-None-clause-runs : goal.run_body-returns-in-None-clause-runs
run_body-returns-in-None-clause-runs g t c = rw (← c.as_slice.ensures, c.in-None.is) (gave _ c.run_all.ensures.runs c.in_ok-run_all.was (ended _))

pub run_all-stmts-init : goal.run_all-stmts-init
run_all-stmts-init g t c = record { same = kept_itself; depth = refl; leads = leads_to_itself }

pub run_all-run_stmt-requires : goal.run_all-run_stmt-requires
run_all-run_stmt-requires g t c κs within = (let w = stmt_in c.args.stmts.now c.stmts.stmt-index c.stmt-item.result (omega arith) in let e = ap effect_of c.stmt-item.is in let d = room_kept c.stmts.invariant.same c.stmts.invariant.depth in omega arith, within)

pub run_all-returns-in_err-run_stmt-clause-runs : goal.run_all-returns-in_err-run_stmt-clause-runs
run_all-returns-in_err-run_stmt-clause-runs g t c = by_result (search rules) (c.stmts.invariant.leads.by (Err c.in_err-run_stmt.field-0.0) _ (no_effect c.args.self.now.code.now c.args.stmts.now c.stmts.stmt-index c.stmt-item.result (omega arith) c.stmt-item.is (rw c.stmts.invariant.same.code at c.run_stmt.ensures.runs) c.in_err-run_stmt.was))

pub run_all-stmts-preserved : goal.run_all-stmts-preserved
run_all-stmts-preserved g t c = record { same = kept_on c.stmts.invariant.same c.run_stmt.ensures.same; depth = c.run_stmt.ensures.runs.depth ∙ c.stmts.invariant.depth; leads = leads_far c.stmts.invariant.leads (one_effect c.args.self.now.code.now c.args.stmts.now c.stmts.stmt-index c.stmt-item.result (omega arith) c.stmt-item.is (rw c.stmts.invariant.same.code at c.run_stmt.ensures.runs) c.in_ok-run_stmt.was) }

pub run_all-returns-clause-runs : goal.run_all-returns-clause-runs
run_all-returns-clause-runs g t c = c.stmts.invariant.leads.by (Ok _) _ (no_more_effects c.args.self.now.code.now c.args.stmts.now c.stmts.stmt-index (omega arith))

pub run_scope-run_all-result-requires : goal.run_scope-run_all-result-requires
run_scope-run_all-result-requires g t c κs within = (let e = ap effects_of c.as_slice.ensures in omega arith, within)

pub run_scope-returns-clause-runs : goal.run_scope-returns-clause-runs
run_scope-returns-clause-runs g t c = rw (← c.as_slice.ensures) (closes_after _ _ c.truncate.ensures c.run_all-result.ensures.runs)

pub run_stmt-assign-requires : goal.run_stmt-assign-requires
run_stmt-assign-requires g t c κs within = (let w = ap stmt_weight (assign_form c.args.stmt.now c.in-Assign.left c.in-Assign.right c.in-Assign.is) in omega arith, within)

pub run_stmt-returns-in-Assign-clause-runs : goal.run_stmt-returns-in-Assign-clause-runs
run_stmt-returns-in-Assign-clause-runs g t c = statement_run _ c.args.stmt.now (assign_form c.args.stmt.now _ _ c.in-Assign.is) c.assign.ensures.runs

pub run_stmt-run_while-requires : goal.run_stmt-run_while-requires
run_stmt-run_while-requires g t c κs within = (let w = ap stmt_weight (while_form c.args.stmt.now c.in-While.block c.in-While.is) in omega arith, within)

pub run_stmt-returns-in-While-clause-runs : goal.run_stmt-returns-in-While-clause-runs
run_stmt-returns-in-While-clause-runs g t c = statement_run _ c.args.stmt.now (while_form c.args.stmt.now _ c.in-While.is) c.run_while.ensures.runs

pub run_stmt-run_for-requires : goal.run_stmt-run_for-requires
run_stmt-run_for-requires g t c κs within = (let w = ap stmt_weight (for_form c.args.stmt.now c.in-For.block c.in-For.is) in omega arith, within)

pub run_stmt-returns-in-For-clause-runs : goal.run_stmt-returns-in-For-clause-runs
run_stmt-returns-in-For-clause-runs g t c = statement_run _ c.args.stmt.now (for_form c.args.stmt.now _ c.in-For.is) c.run_for.ensures.runs

pub run_stmt-run_try-requires : goal.run_stmt-run_try-requires
run_stmt-run_try-requires g t c κs within = (let w = ap stmt_weight (try_form c.args.stmt.now c.in-Try.tried c.in-Try.handler c.in-Try.is) in omega arith, within)

pub run_stmt-returns-in-Try-clause-runs : goal.run_stmt-returns-in-Try-clause-runs
run_stmt-returns-in-Try-clause-runs g t c = statement_run _ c.args.stmt.now (try_form c.args.stmt.now _ _ c.in-Try.is) c.run_try.ensures.runs

pub run_stmt-returns-in-Batch-clause-runs : goal.run_stmt-returns-in-Batch-clause-runs
run_stmt-returns-in-Batch-clause-runs g t c = statement_run _ c.args.stmt.now (batch_form c.args.stmt.now _ c.in-Batch.is) c.perform_batch.ensures.runs

pub run_stmt-run_binding-requires : goal.run_stmt-run_binding-requires
run_stmt-run_binding-requires g t c κs within = (let w = ap stmt_weight (val_form c.args.stmt.now c.in-Val.is) in omega arith, within)

pub run_stmt-returns-in-Val-clause-runs : goal.run_stmt-returns-in-Val-clause-runs
run_stmt-returns-in-Val-clause-runs g t c = statement_run _ c.args.stmt.now (val_form c.args.stmt.now c.in-Val.is) c.run_binding.ensures.runs

pub run_stmt-run_binding-requires-in-Var : goal.run_stmt-run_binding-requires-in-Var
run_stmt-run_binding-requires-in-Var g t c κs within = (let w = ap stmt_weight (var_form c.args.stmt.now c.in-Var.is) in omega arith, within)

pub run_stmt-returns-in-Var-clause-runs : goal.run_stmt-returns-in-Var-clause-runs
run_stmt-returns-in-Var-clause-runs g t c = statement_run _ c.args.stmt.now (var_form c.args.stmt.now c.in-Var.is) c.run_binding-in-Var.ensures.runs

pub run_stmt-run_expr-requires : goal.run_stmt-run_expr-requires
run_stmt-run_expr-requires g t c κs within = (let w = ap stmt_weight (run_form c.args.stmt.now c.in-Run.is) in omega arith, within)

pub run_stmt-returns-in-Run-clause-runs : goal.run_stmt-returns-in-Run-clause-runs
run_stmt-returns-in-Run-clause-runs g t c = statement_run _ c.args.stmt.now (run_form c.args.stmt.now c.in-Run.is) c.run_expr.ensures.runs

pub run_stmt-run_print-requires : goal.run_stmt-run_print-requires
run_stmt-run_print-requires g t c κs within = (let w = ap stmt_weight (print_form c.args.stmt.now c.in-Print.is) in omega arith, within)

pub run_stmt-returns-in-Print-clause-runs : goal.run_stmt-returns-in-Print-clause-runs
run_stmt-returns-in-Print-clause-runs g t c = statement_run _ c.args.stmt.now (print_form c.args.stmt.now c.in-Print.is) c.run_print.ensures.runs

pub run_stmt-run_throw-requires : goal.run_stmt-run_throw-requires
run_stmt-run_throw-requires g t c κs within = (let w = ap stmt_weight (throw_form c.args.stmt.now c.in-Throw.is) in omega arith, within)

pub run_stmt-returns-in-Throw-clause-runs : goal.run_stmt-returns-in-Throw-clause-runs
run_stmt-returns-in-Throw-clause-runs g t c = statement_run _ c.args.stmt.now (throw_form c.args.stmt.now c.in-Throw.is) c.run_throw.ensures.runs

pub run_stmt-run_if-requires : goal.run_stmt-run_if-requires
run_stmt-run_if-requires g t c κs within = (let w = ap stmt_weight (if_form c.args.stmt.now c.in-If.yes c.in-If.no c.in-If.is) in omega arith, within)

pub run_stmt-returns-in-If-clause-runs : goal.run_stmt-returns-in-If-clause-runs
run_stmt-returns-in-If-clause-runs g t c = statement_run _ c.args.stmt.now (if_form c.args.stmt.now _ _ c.in-If.is) c.run_if.ensures.runs

pub run_binding-returns-in_err-value-clause-runs : goal.run_binding-returns-in_err-value-clause-runs
run_binding-returns-in_err-value-clause-runs g t c = cut _ c.value_of.ensures.runs c.in_err-value.was (search rules)

pub run_binding-returns-clause-runs : goal.run_binding-returns-clause-runs
run_binding-returns-clause-runs g t c = gave _ c.value_of.ensures.runs c.in_ok-value.was (bound_after _ _ _ c.bind.ensures)

pub run_expr-returns-in_err-_value-clause-runs : goal.run_expr-returns-in_err-_value-clause-runs
run_expr-returns-in_err-_value-clause-runs g t c = cut _ c.value_of.ensures.runs c.in_err-_value.was (search rules)

pub run_expr-returns-clause-runs : goal.run_expr-returns-clause-runs
run_expr-returns-clause-runs g t c = gave _ c.value_of.ensures.runs c.in_ok-_value.was (ended _)

pub run_print-returns-in_err-value-clause-runs : goal.run_print-returns-in_err-value-clause-runs
run_print-returns-in_err-value-clause-runs g t c = cut _ c.operand_of.ensures.runs c.in_err-value.was (search rules)

pub run_print-returns-clause-runs : goal.run_print-returns-clause-runs
run_print-returns-clause-runs g t c = gave _ c.operand_of.ensures.runs c.in_ok-value.was (rw c.get.ensures at (c.print.ensures.runs c.args.frame.now))

pub run_throw-returns-in_err-value-clause-runs : goal.run_throw-returns-in_err-value-clause-runs
run_throw-returns-in_err-value-clause-runs g t c = cut _ c.operand_of.ensures.runs c.in_err-value.was (search rules)

pub run_throw-returns-clause-runs : goal.run_throw-returns-clause-runs
run_throw-returns-clause-runs g t c = gave _ c.operand_of.ensures.runs c.in_ok-value.was (ended_by _ (rw c.get.ensures at c.throw.ensures))

pub assign-returns-in_err-value-in-Some-clause-runs : goal.assign-returns-in_err-value-in-Some-clause-runs
assign-returns-in_err-value-in-Some-clause-runs g t c = sum_cut c.args.self.now.code.now c.args.at c.in-Some.place c.args.left.now c.args.right.now c.in-Some.end.now c.in-Name.name.now c.in-Name.ensures c.in-Some.ensures c.value_of.ensures.runs c.in_err-value-in-Some.was (search rules)

pub assign-returns-in_ok-value-in-Some-clause-runs : goal.assign-returns-in_ok-value-in-Some-clause-runs
assign-returns-in_ok-value-in-Some-clause-runs g t c = sum_gave c.args.self.now.code.now c.args.at c.in-Some.place c.args.left.now c.args.right.now c.in-Some.end.now c.in-Name.name.now c.add_at.new.self c.add_at.result c.in-Name.ensures c.in-Some.ensures c.value_of.ensures.runs c.in_ok-value-in-Some.was refl c.add_at.ensures.gives c.add_at.ensures.kept c.lift.ensures

pub assign-returns-in_err-value-in-None-clause-runs : goal.assign-returns-in_err-value-in-None-clause-runs
assign-returns-in_err-value-in-None-clause-runs g t c = at_run (λ gas. name_written (bodies c.args.self.now.code.now gas) c.args.at c.args.left.now _ _ _ c.in-Name.ensures) (cut _ c.value_of-in-None.ensures.runs c.in_err-value-in-None.was (search rules))

pub assign-returns-in_ok-value-in-None-clause-runs : goal.assign-returns-in_ok-value-in-None-clause-runs
assign-returns-in_ok-value-in-None-clause-runs g t c = at_run (λ gas. name_written (bodies c.args.self.now.code.now gas) c.args.at c.args.left.now _ _ _ c.in-Name.ensures) (gave _ c.value_of-in-None.ensures.runs c.in_ok-value-in-None.was (changed (λ u. c.set_name.new.frame) _ _ _ (λ names. local names c.value_of-in-None.new.self.state.now) c.args.frame.now c.set_name.new.frame _ refl refl refl (λ a. refl) c.set_name.ensures.gives c.set_name.ensures.kept c.lift-in-None.ensures))

pub assign-operand_of-requires : goal.assign-operand_of-requires
assign-operand_of-requires g t c κs within = (let w = object_light (mirror_expr c.args.left.now) (mirror_expr c.in-Field.object.now) c.in-Field.name.now c.in-Field.ensures in omega arith, within)

pub assign-returns-in_err-target-in-Field-clause-runs : goal.assign-returns-in_err-target-in-Field-clause-runs
assign-returns-in_err-target-in-Field-clause-runs g t c = at_run (λ gas. field_written (bodies c.args.self.now.code.now gas) c.args.at c.args.left.now _ _ _ _ c.in-Field.ensures) (cut _ c.operand_of.ensures.runs c.in_err-target-in-Field.was (search rules))

pub assign-value_of-requires-in-Field : goal.assign-value_of-requires-in-Field
assign-value_of-requires-in-Field g t c κs within = (let d = room_kept c.operand_of.ensures.same c.operand_of.ensures.runs.depth in omega arith, within)

pub assign-returns-in_err-value-in-Field-clause-runs : goal.assign-returns-in_err-value-in-Field-clause-runs
assign-returns-in_err-value-in-Field-clause-runs g t c = at_run (λ gas. field_written (bodies c.args.self.now.code.now gas) c.args.at c.args.left.now _ _ _ _ c.in-Field.ensures) (gave _ c.operand_of.ensures.runs c.in_ok-target-in-Field.was (cut _ (rw c.operand_of.ensures.same.code at c.value_of-in-Field.ensures.runs) c.in_err-value-in-Field.was (search rules)))

pub assign-returns-in_ok-value-in-Field-clause-runs : goal.assign-returns-in_ok-value-in-Field-clause-runs
assign-returns-in_ok-value-in-Field-clause-runs g t c = at_run (λ gas. field_written (bodies c.args.self.now.code.now gas) c.args.at c.args.left.now _ _ _ _ c.in-Field.ensures) (gave _ c.operand_of.ensures.runs c.in_ok-target-in-Field.was (gave _ (rw c.operand_of.ensures.same.code at c.value_of-in-Field.ensures.runs) c.in_ok-value-in-Field.was (rw (← c.as_slice.ensures) (changed (λ u. c.write_field.new.heap) _ _ _ (λ heap. record (local c.args.frame.now c.value_of-in-Field.new.self.state.now) { heap = heap }) c.value_of-in-Field.new.self.state.now.heap c.write_field.new.heap _ refl refl refl (λ a. refl) (rw c.get.ensures at c.write_field.ensures.gives) c.write_field.ensures.kept c.lift-in-Field.ensures))))

pub assign-returns-in-Other-clause-runs : goal.assign-returns-in-Other-clause-runs
assign-returns-in-Other-clause-runs g t c = at_run (λ gas. nothing_assigned (bodies c.args.self.now.code.now gas) c.args.at (mirror_expr c.args.left.now) _ _ c.in-Other.ensures) (ended_by _ (rw c.kind.ensures at c.lift-in-Other.ensures))

pub truth_at-operator_value-requires : goal.truth_at-operator_value-requires
truth_at-operator_value-requires g t c κs within = (let w = ap expr_weight (binary_form c.args.condition.now c.in-Binary.a c.in-Binary.b c.in-Binary.is) in let e = ap weight_of c.get.ensures in let f = ap weight_of c.get-in-Binary.ensures in omega arith, within)

pub truth_at-returns-in_err-value-in-Binary-clause-runs : goal.truth_at-returns-in_err-value-in-Binary-clause-runs
truth_at-returns-in_err-value-in-Binary-clause-runs g t c = truth_by_form _ _ c.args.condition.now (binary_form c.args.condition.now _ _ c.in-Binary.is) (rw (← c.get.ensures, ← c.get-in-Binary.ensures) (cut _ c.operator_value.ensures.runs c.in_err-value-in-Binary.was (search rules)))

pub truth_at-returns-in_ok-value-in-Binary-clause-runs : goal.truth_at-returns-in_ok-value-in-Binary-clause-runs
truth_at-returns-in_ok-value-in-Binary-clause-runs g t c = truth_by_form _ _ c.args.condition.now (binary_form c.args.condition.now _ _ c.in-Binary.is) (rw (← c.get.ensures, ← c.get-in-Binary.ensures) (gave _ c.operator_value.ensures.runs c.in_ok-value-in-Binary.was (helped_end _ _ (truth_of (out-Value c.in_ok-value-in-Binary.value)) c.truth_in.ensures.gives c.lift.ensures)))

pub truth_at-returns-in_err-value-in_default-clause-runs : goal.truth_at-returns-in_err-value-in_default-clause-runs
truth_at-returns-in_err-value-in_default-clause-runs g t c = cut _ c.operand_of.ensures.runs c.in_err-value-in_default.was (search rules)

pub truth_at-returns-in_ok-value-in_default-clause-runs : goal.truth_at-returns-in_ok-value-in_default-clause-runs
truth_at-returns-in_ok-value-in_default-clause-runs g t c = gave _ c.operand_of.ensures.runs c.in_ok-value-in_default.was (helped_end _ _ (truth_of (out-Value c.in_ok-value-in_default.value)) (rw c.get-in_default.ensures at c.truth_in-in_default.ensures.gives) c.lift-in_default.ensures)

pub run_if-returns-in_err-holds-clause-runs : goal.run_if-returns-in_err-holds-clause-runs
run_if-returns-in_err-holds-clause-runs g t c = at_run (λ gas. by_its_truth c.args.at (value_run c.args.self.now.code.now c.args.condition.now gas (local c.args.frame.now c.args.self.now.state.now)) (block (stmts_run c.args.self.now.code.now c.args.yes.now gas)) (block (stmts_run c.args.self.now.code.now c.args.no.now gas))) (cut (λ gas holds l. either holds (block (stmts_run c.args.self.now.code.now c.args.yes.now gas)) (block (stmts_run c.args.self.now.code.now c.args.no.now gas)) l) c.truth_at.ensures.runs c.in_err-holds.was (search rules))

pub run_if-run_scope-requires : goal.run_if-run_scope-requires
run_if-run_scope-requires g t c κs within = (let d = room_kept c.truth_at.ensures.same c.truth_at.ensures.runs.depth in omega arith, within)

pub run_if-returns-then-holds-clause-runs : goal.run_if-returns-then-holds-clause-runs
run_if-returns-then-holds-clause-runs g t c = at_run (λ gas. by_its_truth c.args.at (value_run c.args.self.now.code.now c.args.condition.now gas (local c.args.frame.now c.args.self.now.state.now)) (block (stmts_run c.args.self.now.code.now c.args.yes.now gas)) (block (stmts_run c.args.self.now.code.now c.args.no.now gas))) (gave (λ gas holds l. either holds (block (stmts_run c.args.self.now.code.now c.args.yes.now gas)) (block (stmts_run c.args.self.now.code.now c.args.no.now gas)) l) c.truth_at.ensures.runs c.in_ok-holds.was (rw c.if-holds.true (plain_block _ _ _ c.len-count.ensures (rw c.truth_at.ensures.same.code at c.run_scope.ensures.runs))))

pub run_if-run_scope-requires-2 : goal.run_if-run_scope-requires-2
run_if-run_scope-requires-2 g t c κs within = (let d = room_kept c.truth_at.ensures.same c.truth_at.ensures.runs.depth in omega arith, within)

pub run_if-returns-clause-runs : goal.run_if-returns-clause-runs
run_if-returns-clause-runs g t c = at_run (λ gas. by_its_truth c.args.at (value_run c.args.self.now.code.now c.args.condition.now gas (local c.args.frame.now c.args.self.now.state.now)) (block (stmts_run c.args.self.now.code.now c.args.yes.now gas)) (block (stmts_run c.args.self.now.code.now c.args.no.now gas))) (gave (λ gas holds l. either holds (block (stmts_run c.args.self.now.code.now c.args.yes.now gas)) (block (stmts_run c.args.self.now.code.now c.args.no.now gas)) l) c.truth_at.ensures.runs c.in_ok-holds.was (rw c.if-holds.false (plain_block _ _ _ c.len-count.ensures (rw c.truth_at.ensures.same.code at c.run_scope-2.ensures.runs))))

pub run_while-turns-init : goal.run_while-turns-init
run_while-turns-init g t c = record { same = kept_itself; depth = refl; fuel = omega arith; leads = λ gas le. (gas, le, leads_to_itself) }

pub run_while-truth_at-requires : goal.run_while-truth_at-requires
run_while-truth_at-requires g t c κs within = (let d = room_kept c.turns.invariant.same c.turns.invariant.depth in omega arith, within)

pub run_while-returns-in_err-holds-clause-runs : goal.run_while-returns-in_err-holds-clause-runs
run_while-returns-in_err-holds-clause-runs g t c = by_result (search rules) (unfixed (λ gas le. let i = c.turns.invariant.leads gas le in let f = c.turns.invariant.fuel in i.2.by _ _ (while_fails i.0 c.args.at (value_run c.args.self.now.code.now c.args.condition.now gas) (block (stmts_run c.args.self.now.code.now c.args.block.now gas)) (fixed gas (omega arith) (rw c.turns.invariant.same.code at c.truth_at.ensures.runs)) c.in_err-holds.was)))

pub run_while-returns-then-not-holds-clause-runs : goal.run_while-returns-then-not-holds-clause-runs
run_while-returns-then-not-holds-clause-runs g t c = unfixed (λ gas le. let i = c.turns.invariant.leads gas le in let f = c.turns.invariant.fuel in i.2.by _ _ (while_false i.0 c.args.at (value_run c.args.self.now.code.now c.args.condition.now gas) (block (stmts_run c.args.self.now.code.now c.args.block.now gas)) (fixed gas (omega arith) (rw c.turns.invariant.same.code at c.truth_at.ensures.runs)) (c.in_ok-holds.was ∙ ap Ok c.if-not-holds.true)))

pub run_while-returns-in_err-lift-clause-runs : goal.run_while-returns-in_err-lift-clause-runs
run_while-returns-in_err-lift-clause-runs g t c = by_result (search rules) (unfixed (λ gas le. let i = c.turns.invariant.leads gas le in let f = c.turns.invariant.fuel in i.2.by _ _ (while_true i.0 c.args.at (value_run c.args.self.now.code.now c.args.condition.now gas) (block (stmts_run c.args.self.now.code.now c.args.block.now gas)) (fixed gas (omega arith) (rw c.turns.invariant.same.code at c.truth_at.ensures.runs)) (c.in_ok-holds.was ∙ ap Ok c.if-not-holds.false) (unit_missing c.args.at (block (stmts_run c.args.self.now.code.now c.args.block.now gas)) (while_turns i.0 c.args.at (value_run c.args.self.now.code.now c.args.condition.now gas) (block (stmts_run c.args.self.now.code.now c.args.block.now gas))) c.check_unit.result c.check_unit.ensures c.lift.ensures c.in_err-lift.was))))

pub run_while-run_scope-requires : goal.run_while-run_scope-requires
run_while-run_scope-requires g t c κs within = (let d = (room_kept c.truth_at.ensures.same c.truth_at.ensures.runs.depth ∙ room_kept c.turns.invariant.same c.turns.invariant.depth) in omega arith, within)

pub run_while-returns-in_err-run_scope-clause-runs : goal.run_while-returns-in_err-run_scope-clause-runs
run_while-returns-in_err-run_scope-clause-runs g t c = by_result (search rules) (unfixed (λ gas le. let i = c.turns.invariant.leads gas le in let f = c.turns.invariant.fuel in i.2.by _ _ (while_true i.0 c.args.at (value_run c.args.self.now.code.now c.args.condition.now gas) (block (stmts_run c.args.self.now.code.now c.args.block.now gas)) (fixed gas (omega arith) (rw c.turns.invariant.same.code at c.truth_at.ensures.runs)) (c.in_ok-holds.was ∙ ap Ok c.if-not-holds.false) (unit_wasted c.args.at (block (stmts_run c.args.self.now.code.now c.args.block.now gas)) (while_turns i.0 c.args.at (value_run c.args.self.now.code.now c.args.condition.now gas) (block (stmts_run c.args.self.now.code.now c.args.block.now gas))) c.check_unit.result c.check_unit.ensures c.lift.ensures c.in_ok-lift.was (fixed gas (let x = c.truth_at.ensures.runs.fuel in omega arith) (plain_block _ _ _ c.len-count.ensures (rw (c.truth_at.ensures.same.code, c.turns.invariant.same.code) at c.run_scope.ensures.runs))) c.in_err-run_scope.was))))

pub run_while-turns-smaller : goal.run_while-turns-smaller
run_while-turns-smaller g t c = let low = (fuel_left c.args.at c.truth_at.new.self.state.now.fuel c.check_unit.result c.check_unit.ensures c.lift.ensures c.in_ok-lift.was) in let x = c.truth_at.ensures.runs.fuel in let y = c.run_scope.ensures.runs.fuel in omega arith

pub run_while-turns-preserved : goal.run_while-turns-preserved
run_while-turns-preserved g t c = record { same = record { code = c.run_scope.ensures.same.code ∙ c.truth_at.ensures.same.code ∙ c.turns.invariant.same.code; state = c.run_scope.ensures.same.state ∙ c.truth_at.ensures.same.state ∙ c.turns.invariant.same.state; world = c.run_scope.ensures.same.world ∙ c.truth_at.ensures.same.world ∙ c.turns.invariant.same.world }; depth = c.run_scope.ensures.runs.depth ∙ c.truth_at.ensures.runs.depth ∙ c.turns.invariant.depth; fuel = (let f = c.turns.invariant.fuel in let x = c.truth_at.ensures.runs.fuel in let y = c.run_scope.ensures.runs.fuel in omega arith); leads = λ gas le. let i = c.turns.invariant.leads gas le in let f = c.turns.invariant.fuel in let x = c.truth_at.ensures.runs.fuel in let y = c.run_scope.ensures.runs.fuel in let low = (fuel_left c.args.at c.truth_at.new.self.state.now.fuel c.check_unit.result c.check_unit.ensures c.lift.ensures c.in_ok-lift.was) in let n = turn_more i.0 c.truth_at.new.self.state.now.fuel c.args.at (value_run c.args.self.now.code.now c.args.condition.now gas) (block (stmts_run c.args.self.now.code.now c.args.block.now gas)) (local c.run_scope.new.frame c.run_scope.new.self.state.now) low (omega arith) in (n.0, omega arith, record { by = λ r s m. i.2.by r s (while_true i.0 c.args.at (value_run c.args.self.now.code.now c.args.condition.now gas) (block (stmts_run c.args.self.now.code.now c.args.block.now gas)) (fixed gas (omega arith) (rw c.turns.invariant.same.code at c.truth_at.ensures.runs)) (c.in_ok-holds.was ∙ ap Ok c.if-not-holds.false) (unit_taken c.args.at (block (stmts_run c.args.self.now.code.now c.args.block.now gas)) (while_turns i.0 c.args.at (value_run c.args.self.now.code.now c.args.condition.now gas) (block (stmts_run c.args.self.now.code.now c.args.block.now gas))) c.check_unit.result c.check_unit.ensures c.lift.ensures c.in_ok-lift.was (fixed gas (let x = c.truth_at.ensures.runs.fuel in omega arith) (plain_block _ _ _ c.len-count.ensures (rw (c.truth_at.ensures.same.code, c.turns.invariant.same.code) at c.run_scope.ensures.runs))) c.in_ok-run_scope.was (at_run (λ any. n.2) m))) }) }

pub run_for-returns-in_err-value-clause-runs : goal.run_for-returns-in_err-value-clause-runs
run_for-returns-in_err-value-clause-runs g t c = cut _ c.operand_of.ensures.runs c.in_err-value.was (search rules)

pub run_for-returns-in_err-turns-clause-runs : goal.run_for-returns-in_err-turns-clause-runs
run_for-returns-in_err-turns-clause-runs g t c = gave _ c.operand_of.ensures.runs c.in_ok-value.was (at_run (λ gas. turns_by_form gas c.args.at c.args.name.now (out-Value c.in_ok-value.value) (stmts_run c.args.self.now.code.now c.args.block.now gas) (local c.args.frame.now c.operand_of.new.self.state.now)) (unhelped (λ p. p) c.args.at c.turns_of.result _ _ (rw c.get.ensures at c.turns_of.ensures) c.lift.ensures c.in_err-turns.was (search rules)))

pub run_for-run_turns-requires : goal.run_for-run_turns-requires
run_for-run_turns-requires g t c κs within = (let d = room_kept c.operand_of.ensures.same c.operand_of.ensures.runs.depth in omega arith, within)

pub run_for-returns-clause-runs : goal.run_for-returns-clause-runs
run_for-returns-clause-runs g t c = gave _ c.operand_of.ensures.runs c.in_ok-value.was (at_run (λ gas. turns_by_form gas c.args.at c.args.name.now (out-Value c.in_ok-value.value) (stmts_run c.args.self.now.code.now c.args.block.now gas) (local c.args.frame.now c.operand_of.new.self.state.now)) (helped (λ p. p) c.args.at c.turns_of.result _ _ _ (rw c.get.ensures at c.turns_of.ensures) c.lift.ensures c.in_ok-turns.was (rw (← c.get-2.ensures, ← c.as_slice-values.ensures) (rw c.operand_of.ensures.same.code at c.run_turns.ensures.runs))))

pub run_turns-turns-init : goal.run_turns-turns-init
run_turns-turns-init g t c = record { same = kept_itself; depth = refl; leads = leads_to_itself }

pub run_turns-returns-in_err-begin_turn-clause-runs : goal.run_turns-returns-in_err-begin_turn-clause-runs
run_turns-returns-in_err-begin_turn-clause-runs g t c = by_result (search rules) (c.turns.invariant.leads.by (Err c.in_err-begin_turn.field-0.0) _ (no_turn c.args.self.now.code.now c.args.turns c.args.at c.args.name.now c.args.values.now c.args.block.now c.turns.value-index c.value-item.result (omega arith) c.value-item.is (c.begin_turn.ensures.runs c.turns.frame) c.in_err-begin_turn.was))

pub run_turns-returns-in_err-bind_copy-clause-runs : goal.run_turns-returns-in_err-bind_copy-clause-runs
run_turns-returns-in_err-bind_copy-clause-runs g t c = by_result (want (search rules) c.in_err-bind_copy.ensures) (c.turns.invariant.leads.by (Err NoMemory) _ (no_memory _ (c.begin_turn.ensures.runs c.turns.frame).fuel (c.begin_turn.ensures.runs c.turns.frame).depth))

pub run_turns-run_scope-requires : goal.run_turns-run_scope-requires
run_turns-run_scope-requires g t c κs within = (let d = (room_kept c.begin_turn.ensures.same (c.begin_turn.ensures.runs c.turns.frame).depth ∙ room_kept c.turns.invariant.same c.turns.invariant.depth) in omega arith, within)

pub run_turns-returns-in_err-run_scope-clause-runs : goal.run_turns-returns-in_err-run_scope-clause-runs
run_turns-returns-in_err-run_scope-clause-runs g t c = by_result (search rules) (c.turns.invariant.leads.by (Err c.in_err-run_scope.field-0.0) _ (half_turn c.args.self.now.code.now c.args.turns c.args.at c.args.name.now c.args.values.now c.args.block.now c.turns.value-index c.value-item.result (omega arith) c.value-item.is (c.begin_turn.ensures.runs c.turns.frame) c.in_ok-begin_turn.was (bound_block c.args.self.now.code.now c.len-count.result c.args.block.now c.args.name.now c.value-item.result _ c.len-count.ensures c.in_ok-bind_copy.ensures (rw (c.begin_turn.ensures.same.code, c.turns.invariant.same.code) at c.run_scope.ensures.runs)) c.in_err-run_scope.was))

pub run_turns-turns-preserved : goal.run_turns-turns-preserved
run_turns-turns-preserved g t c = record { same = kept_on (kept_on c.turns.invariant.same c.begin_turn.ensures.same) c.run_scope.ensures.same; depth = c.run_scope.ensures.runs.depth ∙ (c.begin_turn.ensures.runs c.turns.frame).depth ∙ c.turns.invariant.depth; leads = leads_far c.turns.invariant.leads (one_turn c.args.self.now.code.now c.args.turns c.args.at c.args.name.now c.args.values.now c.args.block.now c.turns.value-index c.value-item.result (omega arith) c.value-item.is (c.begin_turn.ensures.runs c.turns.frame) c.in_ok-begin_turn.was (bound_block c.args.self.now.code.now c.len-count.result c.args.block.now c.args.name.now c.value-item.result _ c.len-count.ensures c.in_ok-bind_copy.ensures (rw (c.begin_turn.ensures.same.code, c.turns.invariant.same.code) at c.run_scope.ensures.runs)) c.in_ok-run_scope.was) }

pub run_turns-returns-clause-runs : goal.run_turns-returns-clause-runs
run_turns-returns-clause-runs g t c = c.turns.invariant.leads.by (Ok _) _ (no_more_turns c.args.self.now.code.now c.args.turns c.args.at c.args.name.now c.args.values.now c.args.block.now c.turns.value-index (omega arith))

pub run_try-returns-then-not-is_caught-clause-runs : goal.run_try-returns-then-not-is_caught-clause-runs
run_try-returns-then-not-is_caught-clause-runs g t c = try_passed c.args.self.now.code.now c.args.tried.now c.args.name.now c.args.handler.now (plain_block _ _ _ c.len-count.ensures c.run_scope.ensures.runs) (c.in-Err-Raised.is ∙ ap Err c.in-Err-Raised.field-0-is) (sym (rw c.get.ensures at c.is_caught.ensures) ∙ c.if-not-is_caught.true)

pub run_try-run_scope-requires-in-Err-Raised : goal.run_try-run_scope-requires-in-Err-Raised
run_try-run_scope-requires-in-Err-Raised g t c κs within = (let d = room_kept c.run_scope.ensures.same c.run_scope.ensures.runs.depth in omega arith, within)

pub run_try-returns-in_ok-bind_caught-in-Err-Raised-clause-runs : goal.run_try-returns-in_ok-bind_caught-in-Err-Raised-clause-runs
run_try-returns-in_ok-bind_caught-in-Err-Raised-clause-runs g t c = try_handled c.args.self.now.code.now c.args.tried.now c.args.name.now c.args.handler.now (plain_block _ _ _ c.len-count.ensures c.run_scope.ensures.runs) (c.in-Err-Raised.is ∙ ap Err c.in-Err-Raised.field-0-is) (sym (rw c.get.ensures at c.is_caught.ensures) ∙ c.if-not-is_caught.false) (bound_block _ _ _ _ _ _ c.len-count-in-Err-Raised.ensures (rw c.get-in-Err-Raised.ensures at c.in_ok-bind_caught-in-Err-Raised.ensures) (rw c.run_scope.ensures.same.code at c.run_scope-in-Err-Raised.ensures.runs))

pub run_try-returns-in-Err-NoMemory-clause-runs : goal.run_try-returns-in-Err-NoMemory-clause-runs
run_try-returns-in-Err-NoMemory-clause-runs g t c = no_memory _ c.run_scope.ensures.runs.fuel c.run_scope.ensures.runs.depth

pub run_try-returns-in-Err-Stopped-clause-runs : goal.run_try-returns-in-Err-Stopped-clause-runs
run_try-returns-in-Err-Stopped-clause-runs g t c = sequel_of_stop _ (plain_block _ _ _ c.len-count.ensures c.run_scope.ensures.runs) (c.in-Err-Stopped.is ∙ ap Err c.in-Err-Stopped.field-0-is)

pub run_try-returns-in-Ok-clause-runs : goal.run_try-returns-in-Ok-clause-runs
run_try-returns-in-Ok-clause-runs g t c = try_fine c.args.self.now.code.now c.args.tried.now c.args.name.now c.args.handler.now (plain_block _ _ _ c.len-count.ensures c.run_scope.ensures.runs) c.in-Ok.is

pub run_try-returns-in_err-bind_caught-in-Err-Raised-clause-runs : goal.run_try-returns-in_err-bind_caught-in-Err-Raised-clause-runs
run_try-returns-in_err-bind_caught-in-Err-Raised-clause-runs g t c = by_result (want (search rules) c.in_err-bind_caught-in-Err-Raised.ensures) (no_memory _ c.run_scope.ensures.runs.fuel c.run_scope.ensures.runs.depth)
