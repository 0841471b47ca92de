-- Each form of a statement is performed as it means.
use Rattle.std.proofs.Common.{rules, arith, sym, ap, ◌∙◌, take}
use Rattle.rb_trees.specs.mirror.Code.{mirror_stmt}
use Rattle.rb_engine.proofs.Forms.{val_form, if_form, for_form}
use Rattle.rb_plain.proofs.Fronts.{kept_equal, kept_opened}
use Rattle.rb_plain.proofs.Replies.{ruled, same_by, went}
use Rattle.rb_plain.proofs.Placed.{Left, for_left, if_left, on_ok, others_left, val_left, val_scope}
use Rattle.rb_plain.proofs.Stepped.{as_meant, block_cut, block_done, branch_so, chosen_so, named, of_form, scope_of, stmts_cut, stmts_end, stmts_more, turn_cut, turn_done, turns_cut, turns_more}
use Rattle.rb_plain.proofs.Weight.{stmt_in, stmt_of, stmt_weight, stmts_of}
use Rattle.rb_plain.proofs.walk.+walking.Goals.{perform_stmt-in_default-via-in-Val+in_default, perform_stmt-in_default-via-in-If+in_default, perform_stmt-in_default-via-in-For+in_default, perform_stmt-in_default-via-in_default}
use Rattle.rb_plain.proofs.walk.+walking.Goals as goal

pub perform_all-perform_stmt-requires : goal.perform_all-perform_stmt-requires
perform_all-perform_stmt-requires t c = let w = stmt_in c.args.stmts.now c.stmts.stmt-index c.stmt-item.result (omega arith) in let e = ap stmt_of c.stmt-item.is in omega arith

pub perform_all-returns-in_err-perform_stmt-clause-walked : goal.perform_all-returns-in_err-perform_stmt-clause-walked
perform_all-returns-in_err-perform_stmt-clause-walked t c =
    stmts_cut c.stmt-item.result (omega arith) c.stmt-item.is c.stmts.invariant c.perform_stmt.ensures.walked c.in_err-perform_stmt.was (search rules)

pub perform_all-stmts-preserved : goal.perform_all-stmts-preserved
perform_all-stmts-preserved t c =
    stmts_more c.stmt-item.result (omega arith) c.stmt-item.is c.stmts.invariant c.perform_stmt.ensures.walked c.in_ok-perform_stmt.was c.in_ok-perform_stmt.ensures.scope

pub perform_all-returns-clause-walked : goal.perform_all-returns-clause-walked
perform_all-returns-clause-walked t c = stmts_end (omega arith) c.stmts.invariant

pub perform_block-returns-in_err-perform_all-clause-ended : goal.perform_block-returns-in_err-perform_all-clause-ended
perform_block-returns-in_err-perform_all-clause-ended t c = block_cut c.perform_all.ensures.walked c.in_err-perform_all.was (search rules)

pub perform_block-returns-clause-ended : goal.perform_block-returns-clause-ended
perform_block-returns-clause-ended t c = block_done c.perform_all.ensures.walked c.in_ok-perform_all.was

pub perform_branch-returns-clause-walked : goal.perform_branch-returns-clause-walked
perform_branch-returns-clause-walked t c =
    branch_so c.args.scope.now c.args.branch.now c.perform_block.ensures.names
    (went _ c.value_of.ensures c.in_ok-value.was
    (went _ (ruled c.args.branch.now.at _ _ c.truth_of.ensures.gives c.at_place.ensures) c.in_ok-holds.was
    (chosen_so c.args.world.now c.in_ok-holds.holds c.args.scope.now c.args.branch.now.yes.now c.args.branch.now.no.now c.chosen-block.result.now c.args.frame.now c.chosen-block.ensures
    (same_by c.value_of.ensures c.in_ok-value.was) (rw c.as_slice.ensures at c.perform_block.ensures.ended))))

pub perform_stmt-perform_branch-requires : goal.perform_stmt-perform_branch-requires
perform_stmt-perform_branch-requires t c =
    let w = ap stmt_weight (if_form c.args.stmt.now c.in-If-CarriedIf.yes c.in-If-CarriedIf.no c.in-If-CarriedIf.is-0) in omega arith

pub perform_stmt-perform_rows-requires : goal.perform_stmt-perform_rows-requires
perform_stmt-perform_rows-requires t c =
    let w = ap stmt_weight (for_form c.args.stmt.now c.in-For-RowsLoop.block c.in-For-RowsLoop.is-0) in
    let e = ap stmts_of c.as_slice.ensures in
    omega arith

pub perform_stmt-returns-in-Val-CarriedVal-clause-walked : goal.perform_stmt-returns-in-Val-CarriedVal-clause-walked
perform_stmt-returns-in-Val-CarriedVal-clause-walked t c =
    of_form c.args.world.now c.args.scope.now c.args.stmt.now c.args.frame.now _ (sym (rw c.facts.ensures at c.placed_form.ensures) ∙ c.in-Val-CarriedVal.is-1)
    (val_form c.args.stmt.now c.in-Val-CarriedVal.is-0) c.perform_carried.ensures.walked

pub perform_stmt-returns-in-Val-CarriedVal-clause-scope : goal.perform_stmt-returns-in-Val-CarriedVal-clause-scope
perform_stmt-returns-in-Val-CarriedVal-clause-scope t c =
    on_ok c.perform_carried.result c.perform_carried.new.scope (val_scope c.args.world.now c.args.scope.now c.args.stmt.now (sym (rw c.facts.ensures at c.placed_form.ensures) ∙ c.in-Val-CarriedVal.is-1) c.in-Val-CarriedVal.is-0)
    c.perform_carried.ensures.scope

pub perform_stmt-returns-in-If-CarriedIf-clause-walked : goal.perform_stmt-returns-in-If-CarriedIf-clause-walked
perform_stmt-returns-in-If-CarriedIf-clause-walked t c =
    of_form c.args.world.now c.args.scope.now c.args.stmt.now c.args.frame.now _ (sym (rw c.facts.ensures at c.placed_form.ensures) ∙ c.in-If-CarriedIf.is-1)
    (if_form c.args.stmt.now c.in-If-CarriedIf.yes c.in-If-CarriedIf.no c.in-If-CarriedIf.is-0) c.perform_branch.ensures.walked

pub perform_stmt-returns-in-If-CarriedIf-clause-scope : goal.perform_stmt-returns-in-If-CarriedIf-clause-scope
perform_stmt-returns-in-If-CarriedIf-clause-scope t c =
    scope_of c.args.world.now c.args.scope.now c.args.stmt.now _ _ _ (if_form c.args.stmt.now c.in-If-CarriedIf.yes c.in-If-CarriedIf.no c.in-If-CarriedIf.is-0) c.perform_branch.ensures.scope

pub perform_stmt-returns-in-For-RowsLoop-clause-walked : goal.perform_stmt-returns-in-For-RowsLoop-clause-walked
perform_stmt-returns-in-For-RowsLoop-clause-walked t c =
    of_form c.args.world.now c.args.scope.now c.args.stmt.now c.args.frame.now _ (sym (rw c.facts.ensures at c.placed_form.ensures) ∙ c.in-For-RowsLoop.is-1)
    (for_form c.args.stmt.now c.in-For-RowsLoop.block c.in-For-RowsLoop.is-0) (rw c.as_slice.ensures at c.perform_rows.ensures.walked)

pub perform_stmt-returns-in-For-RowsLoop-clause-scope : goal.perform_stmt-returns-in-For-RowsLoop-clause-scope
perform_stmt-returns-in-For-RowsLoop-clause-scope t c =
    scope_of c.args.world.now c.args.scope.now c.args.stmt.now _ _ _ (for_form c.args.stmt.now c.in-For-RowsLoop.block c.in-For-RowsLoop.is-0) c.perform_rows.ensures.scope

pub perform_stmt-perform_items-requires : goal.perform_stmt-perform_items-requires
perform_stmt-perform_items-requires t c =
    let w = ap stmt_weight (for_form c.args.stmt.now c.in-For-CarriedLoop.block c.in-For-CarriedLoop.is-0) in
    let e = ap stmts_of c.as_slice-in-For-CarriedLoop.ensures in
    omega arith

pub perform_stmt-returns-in-For-CarriedLoop-clause-walked : goal.perform_stmt-returns-in-For-CarriedLoop-clause-walked
perform_stmt-returns-in-For-CarriedLoop-clause-walked t c =
    of_form c.args.world.now c.args.scope.now c.args.stmt.now c.args.frame.now _ (sym (rw c.facts.ensures at c.placed_form.ensures) ∙ c.in-For-CarriedLoop.is-1)
    (for_form c.args.stmt.now c.in-For-CarriedLoop.block c.in-For-CarriedLoop.is-0) (rw c.as_slice-in-For-CarriedLoop.ensures at c.perform_items.ensures.walked)

pub perform_stmt-returns-in-For-CarriedLoop-clause-scope : goal.perform_stmt-returns-in-For-CarriedLoop-clause-scope
perform_stmt-returns-in-For-CarriedLoop-clause-scope t c =
    scope_of c.args.world.now c.args.scope.now c.args.stmt.now _ _ _ (for_form c.args.stmt.now c.in-For-CarriedLoop.block c.in-For-CarriedLoop.is-0) c.perform_items.ensures.scope

pub perform_stmt-returns-in_default-clause-walked : goal.perform_stmt-returns-in_default-clause-walked
perform_stmt-returns-in_default-clause-walked t c =
    let left : Left c.args.world.now c.args.scope.now (mirror_stmt c.args.stmt.now) =
    elim c.in_default.branch [
      | perform_stmt-in_default-via-in-Val+in_default w ↦ val_left c.args.world.now c.args.scope.now c.args.stmt.now (rw c.facts.ensures at c.placed_form.ensures) w.in_default.is-0 w.in_default.not-CarriedVal-1
      | perform_stmt-in_default-via-in-If+in_default w ↦ if_left c.args.world.now c.args.scope.now c.args.stmt.now _ _ (rw c.facts.ensures at c.placed_form.ensures) w.in_default.is-0 w.in_default.not-CarriedIf-1
      | perform_stmt-in_default-via-in-For+in_default w ↦ for_left c.args.world.now c.args.scope.now c.args.stmt.now _ (rw c.facts.ensures at c.placed_form.ensures) w.in_default.is-0 w.in_default.not-RowsLoop-1 w.in_default.not-CarriedLoop-1
      | perform_stmt-in_default-via-in_default w ↦ others_left c.args.world.now c.args.scope.now c.args.stmt.now w.in_default.not-Val-0 w.in_default.not-If-0 w.in_default.not-For-0
    ] in
    as_meant (left.0 c.args.frame.now) c.perform_plain.ensures.walked

pub perform_stmt-returns-in_default-clause-scope : goal.perform_stmt-returns-in_default-clause-scope
perform_stmt-returns-in_default-clause-scope t c =
    let left : Left c.args.world.now c.args.scope.now (mirror_stmt c.args.stmt.now) =
    elim c.in_default.branch [
      | perform_stmt-in_default-via-in-Val+in_default w ↦ val_left c.args.world.now c.args.scope.now c.args.stmt.now (rw c.facts.ensures at c.placed_form.ensures) w.in_default.is-0 w.in_default.not-CarriedVal-1
      | perform_stmt-in_default-via-in-If+in_default w ↦ if_left c.args.world.now c.args.scope.now c.args.stmt.now _ _ (rw c.facts.ensures at c.placed_form.ensures) w.in_default.is-0 w.in_default.not-CarriedIf-1
      | perform_stmt-in_default-via-in-For+in_default w ↦ for_left c.args.world.now c.args.scope.now c.args.stmt.now _ (rw c.facts.ensures at c.placed_form.ensures) w.in_default.is-0 w.in_default.not-RowsLoop-1 w.in_default.not-CarriedLoop-1
      | perform_stmt-in_default-via-in_default w ↦ others_left c.args.world.now c.args.scope.now c.args.stmt.now w.in_default.not-Val-0 w.in_default.not-If-0 w.in_default.not-For-0
    ] in
    on_ok c.perform_plain.result c.perform_plain.new.scope left.1 c.perform_plain.ensures.scope

pub perform_turn-returns-in_err-perform_all-clause-ended : goal.perform_turn-returns-in_err-perform_all-clause-ended
perform_turn-returns-in_err-perform_all-clause-ended t c =
    turn_cut c.args.scope.now c.bind-2.new.self c.args.turns.now c.args.frame.now c.bind.new.self c.args.row.now c.in_ok-bind-2.ensures
    (named c.args.frame.now c.in_ok-bind.ensures.bound c.as_slice.ensures c.in_ok-value.ensures) c.perform_all.ensures.walked c.in_err-perform_all.was (search rules)

pub perform_turn-returns-clause-ended : goal.perform_turn-returns-clause-ended
perform_turn-returns-clause-ended t c =
    turn_done c.args.scope.now c.bind-2.new.self c.args.turns.now c.args.frame.now c.bind.new.self c.args.row.now c.in_ok-bind-2.ensures
    (named c.args.frame.now c.in_ok-bind.ensures.bound c.as_slice.ensures c.in_ok-value.ensures) c.perform_all.ensures.walked c.in_ok-perform_all.was

pub perform_turn-returns-clause-names : goal.perform_turn-returns-clause-names
perform_turn-returns-clause-names t c =
    c.truncate-2.ensures ∙ ap (λ n. take n c.perform_all.new.frame) c.len-names.ensures
    ∙ kept_opened c.args.frame.now c.bind.new.self c.perform_all.new.frame _ c.in_ok-bind.ensures.bound c.in_ok-perform_all.ensures.walked.names_so

pub perform_turn-returns-in_err-perform_all-clause-kept : goal.perform_turn-returns-in_err-perform_all-clause-kept
perform_turn-returns-in_err-perform_all-clause-kept t c =
    kept_opened c.args.frame.now c.bind.new.self c.perform_all.new.frame _ c.in_ok-bind.ensures.bound c.perform_all.ensures.kept

pub perform_turn-returns-clause-kept : goal.perform_turn-returns-clause-kept
perform_turn-returns-clause-kept t c =
    kept_equal c.args.frame.now c.truncate-2.new.self
    (c.truncate-2.ensures ∙ ap (λ n. take n c.perform_all.new.frame) c.len-names.ensures
    ∙ kept_opened c.args.frame.now c.bind.new.self c.perform_all.new.frame _ c.in_ok-bind.ensures.bound c.in_ok-perform_all.ensures.walked.names_so)

pub perform_turn-returns-clause-scope : goal.perform_turn-returns-clause-scope
perform_turn-returns-clause-scope t c =
    c.truncate.ensures ∙ ap (λ n. take n c.perform_all.new.scope) c.len-variables.ensures
    ∙ kept_opened c.args.scope.now c.bind-2.new.self c.perform_all.new.scope _ c.in_ok-bind-2.ensures c.in_ok-perform_all.ensures.scope

pub perform_turns-returns-in_err-perform_turn-clause-ended : goal.perform_turns-returns-in_err-perform_turn-clause-ended
perform_turns-returns-in_err-perform_turn-clause-ended t c =
    turns_cut c.row-item.result (omega arith) c.row-item.is c.rows.invariant.turns c.take_unit.ensures c.in_ok-take_unit.was
    (rw (c.rows.invariant.frame, c.rows.invariant.scope) at c.perform_turn.ensures.ended) c.in_err-perform_turn.was (search rules)

pub perform_turns-rows-preserved : goal.perform_turns-rows-preserved
perform_turns-rows-preserved t c = record {
  frame = c.in_ok-perform_turn.ensures.names ∙ c.rows.invariant.frame;
  scope = c.in_ok-perform_turn.ensures.scope ∙ c.rows.invariant.scope;
  turns = turns_more c.row-item.result (omega arith) c.row-item.is c.rows.invariant.turns c.take_unit.ensures c.in_ok-take_unit.was
      (rw (c.rows.invariant.frame, c.rows.invariant.scope) at c.perform_turn.ensures.ended) c.in_ok-perform_turn.was;
}
