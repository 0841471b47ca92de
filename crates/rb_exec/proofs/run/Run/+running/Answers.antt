-- How each step of a script does what it means.
use Rattle.std.proofs.Common.{rules, arith, refl, ap, ◌∙◌, Err, [], ◌∷◌, ◌++◌, append_assoc}
use Rattle.std.specs.Option.{option_copied}
use Rattle.rb_meaning_bytes.specs.formats.Fields.{number, truth}
use Rattle.rb_wire_fields.proofs.Kept.{keeps_same, keeps_after, keeps_through}
use Rattle.rb_exec.specs.Stages.{turn_run}
use Rattle.rb_exec.proofs.Done.{on_value, on_rule, on_fault, if_so, each_so, over_so, want, wanted, leads_begin, leads_more, leads_cut, leads_end, block_so, closes_so, back_to, of_step, branch_run, branch_went, branch_stopped, did_keeps, unless_run, unless_closes}
use Rattle.rb_exec.proofs.Entries.{adds_keeps, kept_first}
use Rattle.rb_exec.proofs.Forms.{do_form, keep_form, let_form, if_form, each_form, over_form}
use Rattle.rb_exec.proofs.Patched.{on_err, hole_within, filled_keeps}
use Rattle.rb_exec.proofs.Turned.{turns_begin, turn_begins, begins_so, turn_faulted, turn_more, turns_done, turns_short, turns_stopped, turns_walked, unit_missing, unit_taken}
use Rattle.rb_exec.proofs.Weight.{step_weight, step_of, step_in}
use Rattle.rb_exec.proofs.run.Run.+running.Goals as goal

pub run_all-run_step-requires : goal.run_all-run_step-requires
run_all-run_step-requires t c = let w = step_in c.args.steps.now c.steps.step-index c.step-item.result (omega arith) in let e = ap step_of c.step-item.is in omega arith

pub run_all-steps-init : goal.run_all-steps-init
run_all-steps-init t c = leads_begin

pub run_all-returns-in_err-run_step : goal.run_all-returns-in_err-run_step
run_all-returns-in_err-run_step t c = leads_cut c.step-item.result (omega arith) c.step-item.is c.steps.invariant c.run_step.ensures c.in_err-run_step.was (search rules)

pub run_all-steps-preserved : goal.run_all-steps-preserved
run_all-steps-preserved t c = leads_more c.step-item.result (omega arith) c.step-item.is c.steps.invariant c.run_step.ensures c.in_ok-run_step.was

pub run_all-returns : goal.run_all-returns
run_all-returns t c = leads_end (omega arith) c.steps.invariant

pub run_block-returns-in_err-at-clause-kept : goal.run_block-returns-in_err-at-clause-kept
run_block-returns-in_err-at-clause-kept t c = on_err _ (c.in_err-at.ensures.err)

pub run_block-returns-in_err-put_first-clause-kept : goal.run_block-returns-in_err-put_first-clause-kept
run_block-returns-in_err-put_first-clause-kept t c = on_err _ (keeps_after c.args.self.now.bytes.items c.leave_hole.new.bytes.items c.put_first.new.bytes.items (number 0) c.in_ok-at.ensures.ok c.in_err-put_first.ensures.err)

pub run_block-returns-in_err-close-clause-kept : goal.run_block-returns-in_err-close-clause-kept
run_block-returns-in_err-close-clause-kept t c =
    on_err _ (keeps_after c.args.self.now.bytes.items c.leave_hole.new.bytes.items c.run_all-end.new.self.bytes.items (number 0) c.in_ok-at.ensures.ok (keeps_through _ _ _ (adds_keeps c.in_ok-put_first.ensures.ok) (did_keeps c.run_all-end.ensures)))

pub run_block-end_node-requires : goal.run_block-end_node-requires
run_block-end_node-requires t c =
    hole_within c.args.self.now.bytes.items c.leave_hole.new.bytes.items c.run_all-end.new.self.bytes.items c.in_ok-at.at c.in_ok-at.ensures.at c.in_ok-at.ensures.ok
    (keeps_through _ _ _ (adds_keeps c.in_ok-put_first.ensures.ok) (did_keeps c.run_all-end.ensures))

pub run_block-returns-in_err-stopped-clause-kept : goal.run_block-returns-in_err-stopped-clause-kept
run_block-returns-in_err-stopped-clause-kept t c =
    on_err _ (filled_keeps c.args.self.now.bytes.items c.leave_hole.new.bytes.items c.run_all-end.new.self.bytes.items _ c.in_ok-at.at c.run_all-end.new.entries c.in_ok-at.ensures.at c.in_ok-at.ensures.ok
    (keeps_through _ _ _ (adds_keeps c.in_ok-put_first.ensures.ok) (did_keeps c.run_all-end.ensures)) c.in_err-stopped.ensures.kept)

pub run_block-returns-clause-runs : goal.run_block-returns-clause-runs
run_block-returns-clause-runs t c = rw (← c.as_slice.ensures)
    (block_so c.run_all-end.result (option_copied c.args.first) c.args.self.now.bytes.items c.leave_hole.new.bytes.items c.put_first.new.bytes.items c.run_all-end.new.self.bytes.items c.end_node.new.bytes.items
    c.in_ok-at.at c.put_first.new.count c.run_all-end.new.entries c.in_ok-stopped.stopped c.in_ok-at.ensures.at c.in_ok-at.ensures.ok c.in_ok-put_first.ensures.ok c.run_all-end.ensures c.in_ok-stopped.ensures.ended)

pub run_block-returns-clause-closes : goal.run_block-returns-clause-closes
run_block-returns-clause-closes t c = closes_so c.run_all-end.result _ _ _ c.run_all-end.ensures c.in_ok-stopped.ensures.ended c.in_ok-close.ensures

pub run_each-returns-in_err-value : goal.run_each-returns-in_err-value
run_each-returns-in_err-value t c =
    each_so c.args.walk.now c.args.rows.now c.args.self.now.variables c.args.self.now.server (on_fault _ c.value.ensures c.in_err-value.was (search rules))

pub run_each-returns-in_err-rows : goal.run_each-returns-in_err-rows
run_each-returns-in_err-rows t c =
    each_so c.args.walk.now c.args.rows.now c.args.self.now.variables c.args.self.now.server
    (on_value _ c.value.ensures c.in_ok-value.was (on_fault _ (on_rule _ _ _ c.rows_in.ensures c.ruled.ensures) c.in_err-rows.was (search rules)))

pub run_each-returns : goal.run_each-returns
run_each-returns t c =
    each_so c.args.walk.now c.args.rows.now c.args.self.now.variables c.args.self.now.server
    (on_value _ c.value.ensures c.in_ok-value.was
    (on_value _ (on_rule _ _ _ c.rows_in.ensures c.ruled.ensures) c.in_ok-rows.was (rw (c.as_slice.ensures, c.get.ensures) at c.run_walk.ensures)))

pub run_over-returns-in_err-items : goal.run_over-returns-in_err-items
run_over-returns-in_err-items t c =
    over_so c.args.walk.now c.args.input c.args.self.now.variables c.args.self.now.server c.requires.plain
    (on_fault _ (on_rule _ _ _ c.input_items.ensures c.ruled.ensures) c.in_err-items.was (search rules))

pub run_over-returns : goal.run_over-returns
run_over-returns t c =
    over_so c.args.walk.now c.args.input c.args.self.now.variables c.args.self.now.server c.requires.plain
    (on_value _ (on_rule _ _ _ c.input_items.ensures c.ruled.ensures) c.in_ok-items.was (rw (c.as_slice.ensures, c.get.ensures) at c.run_walk.ensures))

pub run_walk-returns-in_err-at : goal.run_walk-returns-in_err-at
run_walk-returns-in_err-at t c = want (search rules) c.in_err-at.ensures.err

pub run_walk-returns-in_err-end : goal.run_walk-returns-in_err-end
run_walk-returns-in_err-end t c = wanted (search rules) c.in_err-end.ensures.turns
    (keeps_after c.args.self.now.bytes.items c.put_rows.new.bytes.items c.run_turns.new.self.bytes.items (0x33 ∷ [] ++ number 0) (c.in_ok-at.ensures.ok ∙ append_assoc c.args.self.now.bytes.items (0x33 ∷ []) (number 0)) c.in_err-end.ensures.kept)

pub run_walk-fill-requires : goal.run_walk-fill-requires
run_walk-fill-requires t c = hole_within (c.args.self.now.bytes.items ++ 0x33 ∷ []) c.put_rows.new.bytes.items c.run_turns.new.self.bytes.items c.in_ok-at.at c.in_ok-at.ensures.at c.in_ok-at.ensures.ok (adds_keeps c.in_ok-end.ensures.turns.adds)

pub run_walk-returns : goal.run_walk-returns
run_walk-returns t c =
    back_to c.in_ok-end.ensures.closes
    (turns_walked c.args.walk.now.site.id c.args.walk.now.site.at _ c.args.self.now.bytes.items c.put_rows.new.bytes.items c.run_turns.new.self.bytes.items c.fill.new.bytes.items
    c.in_ok-at.at c.run_turns.new.begun c.args.entries.now c.add_one.new.count c.in_ok-end.end
    c.in_ok-at.ensures.at c.in_ok-at.ensures.ok c.in_ok-end.ensures.turns c.fill.ensures c.add_one.ensures c.end_turns.ensures)

pub run_if-returns-in_err-value : goal.run_if-returns-in_err-value
run_if-returns-in_err-value t c =
    if_so c.args.site c.args.test.now c.args.yes.now c.args.no.now c.args.self.now.variables c.args.self.now.server (on_fault _ c.condition.ensures c.in_err-value.was (search rules))

pub run_if-returns-in_err-holds : goal.run_if-returns-in_err-holds
run_if-returns-in_err-holds t c =
    if_so c.args.site c.args.test.now c.args.yes.now c.args.no.now c.args.self.now.variables c.args.self.now.server
    (on_value _ c.condition.ensures c.in_ok-value.was (on_fault _ (on_rule _ _ _ c.truth_in.ensures.gives c.ruled.ensures) c.in_err-holds.was (search rules)))

pub run_if-returns-in_err-put_branch : goal.run_if-returns-in_err-put_branch
run_if-returns-in_err-put_branch t c = want (search rules) c.in_err-put_branch.ensures.err

pub run_if-returns-in_err-stopped : goal.run_if-returns-in_err-stopped
run_if-returns-in_err-stopped t c = wanted (search rules) c.in_err-stopped.ensures.runs (keeps_after c.args.self.now.bytes.items c.put_branch.new.bytes.items c.run_block.new.self.bytes.items (0x32 ∷ truth c.in_ok-holds.holds) c.in_ok-put_branch.ensures.ok c.in_err-stopped.ensures.kept)

pub run_if-returns-then-stopped : goal.run_if-returns-then-stopped
run_if-returns-then-stopped t c =
    if_so c.args.site c.args.test.now c.args.yes.now c.args.no.now c.args.self.now.variables c.args.self.now.server
    (on_value _ c.condition.ensures c.in_ok-value.was
    (on_value _ (on_rule _ _ _ c.truth_in.ensures.gives c.ruled.ensures) c.in_ok-holds.was
    (back_to (c.in_ok-stopped.ensures.closes [] c.args.self.now.variables refl c.count-count.ensures)
    (branch_stopped c.in_ok-holds.holds _ c.args.self.now.bytes.items c.put_branch.new.bytes.items c.run_block.new.self.bytes.items c.args.entries.now c.add_one.new.count c.in_ok-stopped.stopped c.in_ok-put_branch.ensures.ok
    (branch_run c.args.site c.in_ok-holds.holds c.args.yes.now c.args.no.now c.chosen-steps.result.now c.args.self.now.variables c.condition.new.server c.run_block.new.self.server _ _ _ c.chosen-steps.ensures c.in_ok-stopped.ensures.runs)
    c.add_one.ensures c.if-stopped.true))))

pub run_if-returns : goal.run_if-returns
run_if-returns t c =
    if_so c.args.site c.args.test.now c.args.yes.now c.args.no.now c.args.self.now.variables c.args.self.now.server
    (on_value _ c.condition.ensures c.in_ok-value.was
    (on_value _ (on_rule _ _ _ c.truth_in.ensures.gives c.ruled.ensures) c.in_ok-holds.was
    (back_to (c.in_ok-stopped.ensures.closes [] c.args.self.now.variables refl c.count-count.ensures)
    (branch_went c.in_ok-holds.holds _ c.args.self.now.bytes.items c.put_branch.new.bytes.items c.run_block.new.self.bytes.items c.args.entries.now c.add_one.new.count c.in_ok-stopped.stopped c.in_ok-put_branch.ensures.ok
    (branch_run c.args.site c.in_ok-holds.holds c.args.yes.now c.args.no.now c.chosen-steps.result.now c.args.self.now.variables c.condition.new.server c.run_block.new.self.server _ _ _ c.chosen-steps.ensures c.in_ok-stopped.ensures.runs)
    c.add_one.ensures c.if-stopped.false))))

pub run_step-run_if-requires : goal.run_step-run_if-requires
run_step-run_if-requires t c = let w = ap step_weight (if_form c.args.step.now c.in-If.yes c.in-If.no c.in-If.is) in omega arith

pub run_step-run_each-requires : goal.run_step-run_each-requires
run_step-run_each-requires t c = let w = ap step_weight (each_form c.args.step.now c.in-Each.body c.in-Each.is) in omega arith

pub run_step-run_over-requires : goal.run_step-run_over-requires
run_step-run_over-requires t c = let w = ap step_weight (over_form c.args.step.now c.in-Over.body c.in-Over.is) in (omega arith, refl)

pub run_step-returns-in-Do : goal.run_step-returns-in-Do
run_step-returns-in-Do t c = of_step c.args.stage.now c.args.step.now c.args.self.now.variables c.args.self.now.server (do_form c.args.step.now c.in-Do.is) (c.run_do.ensures c.args.entries.now)

pub run_step-returns-in-Keep : goal.run_step-returns-in-Keep
run_step-returns-in-Keep t c = of_step c.args.stage.now c.args.step.now c.args.self.now.variables c.args.self.now.server (keep_form c.args.step.now c.in-Keep.is) c.run_keep.ensures

pub run_step-returns-in-Let : goal.run_step-returns-in-Let
run_step-returns-in-Let t c = of_step c.args.stage.now c.args.step.now c.args.self.now.variables c.args.self.now.server (let_form c.args.step.now c.in-Let.is) c.run_let.ensures

pub run_step-returns-in-If : goal.run_step-returns-in-If
run_step-returns-in-If t c = of_step c.args.stage.now c.args.step.now c.args.self.now.variables c.args.self.now.server (if_form c.args.step.now _ _ c.in-If.is) c.run_if.ensures

pub run_step-returns-in-Each : goal.run_step-returns-in-Each
run_step-returns-in-Each t c = of_step c.args.stage.now c.args.step.now c.args.self.now.variables c.args.self.now.server (each_form c.args.step.now _ c.in-Each.is) c.run_each.ensures

pub run_step-returns-in-Over : goal.run_step-returns-in-Over
run_step-returns-in-Over t c = of_step c.args.stage.now c.args.step.now c.args.self.now.variables c.args.self.now.server (over_form c.args.step.now _ c.in-Over.is) c.run_over.ensures

pub run_row-returns-in_err-bind-clause-kept : goal.run_row-returns-in_err-bind-clause-kept
run_row-returns-in_err-bind-clause-kept t c = on_err _ (keeps_same _ _ refl)

pub run_row-returns-clause-closes : goal.run_row-returns-clause-closes
run_row-returns-clause-closes t c = unless_closes c.run_block.new.self.variables c.run_block.result c.run_block.ensures.closes c.in_ok-bind.ensures.bound c.count-count.ensures

pub run_turn-returns-in-Ok-clause-turn : goal.run_turn-returns-in-Ok-clause-turn
run_turn-returns-in-Ok-clause-turn t c =
    unless_run _ c.run_row.result _ _ c.run_row.new.self.server (turn_begins c.args.walk.now.site.id c.args.walk.now.site.at c.args.walk.now.keep c.args.row.now _ c.args.self.now.server
    (begins_so c.args.walk.now.site.at _ _ _ _ c.may_keep.ensures c.at_place.ensures c.in-Ok.is) ∙ kept_first c.args.walk.now.keep c.args.row.now _) c.run_row.ensures.turn

pub run_turn-returns-in_ok-put_faulted-in-Err-Fault-clause-turn : goal.run_turn-returns-in_ok-put_faulted-in-Err-Fault-clause-turn
run_turn-returns-in_ok-put_faulted-in-Err-Fault-clause-turn t c =
    turn_faulted c.args.walk.now.site.id c.args.walk.now.site.at c.in-Err-Fault.at c.args.walk.now.keep c.args.row.now c.in-Err-Fault.fault _ c.args.self.now.server _ _ c.may_keep.result c.at_place.result
    c.may_keep.ensures c.at_place.ensures (c.in-Err-Fault.is ∙ ap Err c.in-Err-Fault.field-0-is) (rw c.into_inner-fault.ensures at c.in_ok-put_faulted-in-Err-Fault.ensures.ok)

pub run_turns-rows-init : goal.run_turns-rows-init
run_turns-rows-init t c = record { variables = refl; turns = turns_begin _ _ }

pub run_turns-returns-then-not-take_unit-clause-turns : goal.run_turns-returns-then-not-take_unit-clause-turns
run_turns-returns-then-not-take_unit-clause-turns t c =
    let short = unit_missing c.rows.self.server c.take_unit.new.self c.take_unit.result c.take_unit.ensures c.if-not-take_unit.true in
    turns_short (λ row. turn_run c.args.walk.now row c.args.self.now.variables) _ _ _ c.args.rows.now c.rows.row-index c.row-item.result c.rows.self.server c.take_unit.new.self (omega arith) c.row-item.is short.0 short.1 c.rows.invariant.turns

pub run_turns-returns-in_err-stopped-clause-kept : goal.run_turns-returns-in_err-stopped-clause-kept
run_turns-returns-in_err-stopped-clause-kept t c = on_err _ (keeps_through _ _ _ c.rows.invariant.turns.keeps c.in_err-stopped.ensures.kept)

pub run_turns-returns-then-stopped-clause-turns : goal.run_turns-returns-then-stopped-clause-turns
run_turns-returns-then-stopped-clause-turns t c =
    turns_stopped (λ row. turn_run c.args.walk.now row c.args.self.now.variables) _ _ c.args.rows.now c.rows.row-index c.row-item.result c.rows.self.server c.take_unit.new.self c.run_turn.new.self.server c.rows.self.bytes.items c.run_turn.new.self.bytes.items c.rows.begun c.add_one.new.count c.in_ok-stopped.stopped (omega arith) c.row-item.is
    (unit_taken c.rows.self.server c.take_unit.new.self c.take_unit.result c.take_unit.ensures c.if-not-take_unit.false) (rw (c.rows.invariant.variables) at c.in_ok-stopped.ensures.turn) c.if-stopped.true c.add_one.ensures c.rows.invariant.turns

pub run_turns-rows-preserved : goal.run_turns-rows-preserved
run_turns-rows-preserved t c = record {
  variables = c.in_ok-stopped.ensures.closes ∙ c.rows.invariant.variables;
  turns = turn_more (λ row. turn_run c.args.walk.now row c.args.self.now.variables) _ _ c.args.rows.now c.rows.row-index c.row-item.result c.rows.self.server c.take_unit.new.self c.run_turn.new.self.server c.rows.self.bytes.items c.run_turn.new.self.bytes.items c.rows.begun c.add_one.new.count c.in_ok-stopped.stopped (omega arith) c.row-item.is
      (unit_taken c.rows.self.server c.take_unit.new.self c.take_unit.result c.take_unit.ensures c.if-not-take_unit.false) (rw (c.rows.invariant.variables) at c.in_ok-stopped.ensures.turn) c.if-stopped.false c.add_one.ensures c.rows.invariant.turns;
}

pub run_turns-returns-clause-turns : goal.run_turns-returns-clause-turns
run_turns-returns-clause-turns t c = turns_done (λ row. turn_run c.args.walk.now row c.args.self.now.variables) _ _ _ c.args.rows.now c.rows.row-index c.rows.self.server (omega arith) c.rows.invariant.turns
