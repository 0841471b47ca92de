use Rattle.std.proofs.Common.{arith, rules}
use Rattle.rb_wire_forest.specs.Opened.{opened}
use Rattle.rb_wire_forest.proofs.ForestTurned.{plain_part, pass_part, bind_part, both_part, yes_part, no_part, branch_missed, rows_part, rows_missed, list_part, list_missed, turn_stops, turn_walks, turns_on, turns_stop, turns_left, turns_end}
use Rattle.rb_wire_forest.proofs.forest_fitting.+forest_parts.Goals as goal

pub read_part-returns-in-Plain : goal.read_part-returns-in-Plain
read_part-returns-in-Plain n c = plain_part c.args.lengths.now c.args.part.now _ c.in-Plain.takes c.as_slice.result.now _ _ c.args.from _ c.in-Plain.is c.as_slice.ensures c.read_values.ensures

pub read_part-returns-in-Pass : goal.read_part-returns-in-Pass
read_part-returns-in-Pass n c = pass_part c.args.lengths.now c.args.part.now c.in-Pass.step _ c.args.from c.pass.result c.in-Pass.is c.pass.ensures

pub read_part-returns-in-Bind : goal.read_part-returns-in-Bind
read_part-returns-in-Bind n c = bind_part c.args.lengths.now c.args.part.now c.in-Bind.step c.in-Bind.name c.in-Bind.kind _ _ c.args.from _ c.in-Bind.is c.read_value.ensures

pub read_part-returns-in-Both : goal.read_part-returns-in-Both
read_part-returns-in-Both n c = both_part c.args.lengths.now c.args.part.now c.in-Both.step c.in-Both.at c.in-Both.name c.in-Both.value _ c.args.from c.pass-in-Both.result c.in-Both.is c.pass-in-Both.ensures

pub read_part-returns-in_Some-true-cursor-in-Branch : goal.read_part-returns-in_Some-true-cursor-in-Branch
read_part-returns-in_Some-true-cursor-in-Branch n c =
    yes_part c.args.lengths.now c.args.part.now c.in-Branch.step c.in-Branch.yes c.in-Branch.no c.as_slice-in_Some-true-cursor-in-Branch.result.now c.in_Some-true-cursor-in-Branch.field-0 c.args.from c.begin.result
    (opened c.args.cursor.now) (opened c.branch-cursor.new.self) (opened c.read_node.new.cursor) c.read_node.result
    c.in-Branch.is c.as_slice-in_Some-true-cursor-in-Branch.ensures c.in_Some-true-cursor-in-Branch.field-0-test c.in_Some-true-cursor-in-Branch.ensures c.begin.ensures c.read_node.ensures

pub read_part-returns-in_Some-false-cursor-in-Branch : goal.read_part-returns-in_Some-false-cursor-in-Branch
read_part-returns-in_Some-false-cursor-in-Branch n c =
    no_part c.args.lengths.now c.args.part.now c.in-Branch.step c.in-Branch.yes c.in-Branch.no c.as_slice-in_Some-false-cursor-in-Branch.result.now c.in_Some-false-cursor-in-Branch.field-0 c.args.from c.begin-in_Some-false-cursor-in-Branch.result
    (opened c.args.cursor.now) (opened c.branch-cursor.new.self) (opened c.read_node-in_Some-false-cursor-in-Branch.new.cursor) c.read_node-in_Some-false-cursor-in-Branch.result
    c.in-Branch.is c.as_slice-in_Some-false-cursor-in-Branch.ensures c.in_Some-false-cursor-in-Branch.field-0-test c.in_Some-false-cursor-in-Branch.ensures
    c.begin-in_Some-false-cursor-in-Branch.ensures c.read_node-in_Some-false-cursor-in-Branch.ensures

pub read_part-returns-in_None-cursor-in-Branch : goal.read_part-returns-in_None-cursor-in-Branch
read_part-returns-in_None-cursor-in-Branch n c =
    branch_missed c.args.lengths.now c.args.part.now c.in-Branch.step c.in-Branch.yes c.in-Branch.no c.args.from (opened c.args.cursor.now) (opened c.branch-cursor.new.self) c.miss.result
    c.in-Branch.is c.in_None-cursor-in-Branch.ensures.0 c.in_None-cursor-in-Branch.ensures.1 c.miss.ensures

pub read_part-returns-in-Some : goal.read_part-returns-in-Some
read_part-returns-in-Some n c =
    rows_part c.args.lengths.now c.args.part.now c.in-Turns.step c.in-Turns.name c.in-Turns.kind c.in-Turns.body c.as_slice-in-Some.result.now c.in-Some.turns c.args.from
    (opened c.args.cursor.now) (opened c.rows.new.self) (opened c.read_turns.new.cursor) c.read_turns.result c.in-Turns.is c.as_slice-in-Some.ensures c.in-Some.ensures c.read_turns.ensures

pub read_part-returns-in-None : goal.read_part-returns-in-None
read_part-returns-in-None n c =
    rows_missed c.args.lengths.now c.args.part.now c.in-Turns.step c.in-Turns.name c.in-Turns.kind c.in-Turns.body c.args.from (opened c.args.cursor.now) (opened c.rows.new.self) c.miss-in-None.result
    c.in-Turns.is c.in-None.ensures.0 c.in-None.ensures.1 c.miss-in-None.ensures

pub read_turn-returns-in_err-row : goal.read_turn-returns-in_err-row
read_turn-returns-in_err-row n c =
    turn_stops c.args.lengths.now c.args.step c.args.kind c.args.body.now (opened c.args.cursor.now) (opened c.turn.new.self) (opened c.read_row.new.cursor) c.args.from c.begin.result c.turn.result c.in_err-row.field-0.0 c.from_residual.result
    c.turn.ensures c.begin.ensures c.in_err-row.ensures (search rules)

pub read_turn-returns : goal.read_turn-returns
read_turn-returns n c =
    turn_walks c.args.lengths.now c.args.step c.args.kind c.args.body.now (opened c.args.cursor.now) (opened c.turn.new.self) (opened c.read_row.new.cursor) (opened c.read_node.new.cursor) c.args.from c.begin.result c.in_ok-row.row c.turn.result c.read_node.result
    c.turn.ensures c.begin.ensures c.in_ok-row.ensures c.read_node.ensures

pub read_turns-returns-then-progress : goal.read_turns-returns-then-progress
read_turns-returns-then-progress n c =
    turns_left c.args.lengths.now c.args.step c.args.kind c.args.body.now c.args.turns c.loop.counter (opened c.args.cursor.now) (opened c.loop.cursor) (opened c.close.new.self) c.args.from c.loop.progress c.spare.result c.close.result
    (omega arith) c.if-progress.true c.loop.invariant c.close.ensures c.spare.ensures

pub read_turns-returns-in_err-progress : goal.read_turns-returns-in_err-progress
read_turns-returns-in_err-progress n c =
    turns_stop c.args.lengths.now c.args.step c.args.kind c.args.body.now c.args.turns c.loop.counter (opened c.args.cursor.now) (opened c.loop.cursor) (opened c.read_turn.new.cursor) c.args.from c.loop.progress c.in_err-progress.field-0.0 c.from_residual.result
    (omega arith) c.if-progress.false c.loop.invariant c.in_err-progress.ensures (search rules)

pub read_turns-loop-preserved : goal.read_turns-loop-preserved
read_turns-loop-preserved n c =
    turns_on c.args.lengths.now c.args.step c.args.kind c.args.body.now c.args.turns c.loop.counter (opened c.args.cursor.now) (opened c.loop.cursor) (opened c.read_turn.new.cursor) c.args.from c.loop.progress c.in_ok-progress.progress
    (omega arith) c.if-progress.false c.loop.invariant c.in_ok-progress.ensures

pub read_turns-returns : goal.read_turns-returns
read_turns-returns n c =
    turns_end c.args.lengths.now c.args.step c.args.kind c.args.body.now c.args.turns c.loop.counter (opened c.args.cursor.now) (opened c.loop.cursor) (opened c.close-2.new.self) c.args.from c.loop.progress c.end_turns.result c.close-2.result
    (omega arith) c.loop.invariant c.close-2.ensures c.end_turns.ensures

pub read_part-returns-in-Some-rows : goal.read_part-returns-in-Some-rows
read_part-returns-in-Some-rows n c =
    list_part c.args.lengths.now c.args.part.now c.in-Over.step c.in-Over.at c.in-Over.name c.in-Over.list c.in-Over.input c.length_of-items.result c.in-Over.body c.as_slice-in-Some-rows.result.now
    c.in-Some-rows.turns c.args.from (opened c.args.cursor.now) (opened c.rows-in-Over.new.self) (opened c.read_list.new.cursor) c.read_list.result
    c.in-Over.is c.length_of-items.ensures c.as_slice-in-Some-rows.ensures c.in-Some-rows.ensures c.read_list.ensures

pub read_part-returns-in-None-rows : goal.read_part-returns-in-None-rows
read_part-returns-in-None-rows n c =
    list_missed c.args.lengths.now c.args.part.now c.in-Over.step c.in-Over.at c.in-Over.name c.in-Over.list c.in-Over.input c.in-Over.body c.args.from
    (opened c.args.cursor.now) (opened c.rows-in-Over.new.self) c.miss-in-None-rows.result
    c.in-Over.is c.in-None-rows.ensures.0 c.in-None-rows.ensures.1 c.miss-in-None-rows.ensures
