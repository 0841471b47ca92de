-- Each part is performed as it means.
use Rattle.std.proofs.Common.{rules, arith, refl, ap, ◌∙◌, ◌+◌, [], ◌∷◌, ◌++◌, take, drop}
use Rattle.std.proofs.lemmas.List.{drop_all}
use Rattle.rb_trees.specs.mirror.Remainders.{Branch, Turns, Over, mirror_part, mirror_parts}
use Rattle.rb_trees.proofs.mirror.Parts.{form_Branch, form_Turns, form_Over}
use Rattle.rb_engine.specs.Locals.{local}
use Rattle.rb_client.specs.Lists.{item_meant}
use Rattle.rb_client.specs.Walks.{all_meant, turn_meant}
use Rattle.rb_client.proofs.Dropped.{dropped_one}
use Rattle.rb_client.proofs.Enclosed.{branch_missed, branch_so, enclosed_so, loop_so, row_kept, row_missed, row_none, rows_cut, rows_so, turned_missed, turned_so, turns_begin, turns_cut, turns_end, turns_next}
use Rattle.rb_client.proofs.Listed.{item_so, items_begin, items_cut, items_end, items_next, items_stop, list_cut, list_missed, list_on, list_refused, list_so, over_so, spent_due, spent_less}
use Rattle.rb_client.proofs.Parted.{all_cut, all_end, all_more, of_form, on_ends}
use Rattle.rb_client.proofs.FormsApart.{piece_so}
use Rattle.rb_client.proofs.Weight.{part_in, part_of, part_weight, parts_of}
use Rattle.rb_client.proofs.replay.+parts.Goals as goal

pub perform_all-perform_part-requires : goal.perform_all-perform_part-requires
perform_all-perform_part-requires g t c κs within = (let w = part_in c.args.parts.now c.parts.part-index c.part-item.result (omega arith) in let e = ap part_of c.part-item.is in omega arith, within)

pub perform_all-returns-in_err-perform_part : goal.perform_all-returns-in_err-perform_part
perform_all-returns-in_err-perform_part g t c =
    all_cut c.args.code.now c.args.parts.now c.parts.part-index c.part-item.result (omega arith) c.part-item.is c.parts.invariant c.perform_part.ensures c.in_err-perform_part.was (search rules)

pub perform_all-parts-preserved : goal.perform_all-parts-preserved
perform_all-parts-preserved g t c = all_more c.args.code.now c.args.parts.now c.parts.part-index c.part-item.result (omega arith) c.part-item.is c.parts.invariant c.perform_part.ensures c.in_ok-perform_part.was

pub perform_all-returns : goal.perform_all-returns
perform_all-returns g t c = all_end c.args.code.now c.args.parts.now c.parts.part-index (omega arith) c.parts.invariant

pub perform_block-returns : goal.perform_block-returns
perform_block-returns g t c =
    enclosed_so g.W.Sink (all_meant c.args.code.now c.args.parts.now) (local c.args.frame.now c.args.state.now)
    (local c.perform_all-ended.new.frame c.perform_all-ended.new.state) (local c.truncate.new.self c.perform_all-ended.new.state) c.args.world.now c.perform_all-ended.new.world _ c.perform_all-ended.result
    c.close.result c.perform_all-ended.ensures refl c.close.ensures
    (ap (λ ns. local ns c.perform_all-ended.new.state) (c.truncate.ensures ∙ ap (λ n. take n c.perform_all-ended.new.frame) c.len-count.ensures))

pub perform_branch-returns-in_default-holds : goal.perform_branch-returns-in_default-holds
perform_branch-returns-in_default-holds g t c =
    branch_missed g.W.Sink c.args.code.now c.args.choice.now.step c.args.choice.now.yes.now c.args.choice.now.no.now (local c.args.frame.now c.args.state.now) c.args.world.now _ _ _
    c.in_default-holds.ensures.0 c.in_default-holds.ensures.1 refl c.in_ok-missed.ensures refl

pub perform_branch-returns : goal.perform_branch-returns
perform_branch-returns g t c =
    branch_so g.W.Sink c.args.code.now c.args.choice.now.step c.args.choice.now.yes.now c.args.choice.now.no.now c.chosen-parts.result.now c.in_Some-holds.holds (local c.args.frame.now c.args.state.now) _ c.args.world.now _ _ c.perform_block.result
    c.in_Some-holds.ensures refl c.chosen-parts.ensures (rw c.as_slice.ensures at c.perform_block.ensures)

pub perform_part-perform_branch-requires : goal.perform_part-perform_branch-requires
perform_part-perform_branch-requires g t c κs within = (let w = ap part_weight (ap mirror_part c.in-Branch.is ∙ form_Branch c.in-Branch.step c.in-Branch.yes c.in-Branch.no) in let y = ap (λ x. parts_of x.yes.now) c.new-choice.ensures in let n = ap (λ x. parts_of x.no.now) c.new-choice.ensures in omega arith, within)

pub perform_part-perform_rows-requires : goal.perform_part-perform_rows-requires
perform_part-perform_rows-requires g t c κs within =
    (let w = ap part_weight (ap mirror_part c.in-Turns.is ∙ form_Turns c.in-Turns.step c.in-Turns.name c.in-Turns.kind c.in-Turns.body) in let e = ap parts_of c.as_slice.ensures in let t = ap (λ x. parts_of x.body.now) c.new-turns.ensures in omega arith, within)

pub perform_part-perform_piece-requires : goal.perform_part-perform_piece-requires
perform_part-perform_piece-requires g t c = piece_so c.args.part.now c.in_default.not-Branch c.in_default.not-Turns c.in_default.not-Over

pub perform_part-returns-in-Branch : goal.perform_part-returns-in-Branch
perform_part-returns-in-Branch g t c =
    of_form c.args.code.now c.args.part.now (Branch c.in-Branch.step (mirror_parts c.in-Branch.yes) (mirror_parts c.in-Branch.no)) (ap mirror_part c.in-Branch.is ∙ form_Branch c.in-Branch.step c.in-Branch.yes c.in-Branch.no)
    (rw c.new-choice.ensures at c.perform_branch.ensures)

pub perform_part-returns-in-Turns : goal.perform_part-returns-in-Turns
perform_part-returns-in-Turns g t c =
    of_form c.args.code.now c.args.part.now (Turns c.in-Turns.step c.in-Turns.name c.in-Turns.kind (mirror_parts c.in-Turns.body)) (ap mirror_part c.in-Turns.is ∙ form_Turns c.in-Turns.step c.in-Turns.name c.in-Turns.kind c.in-Turns.body)
    (loop_so c.args.code.now c.in-Turns.step c.in-Turns.name c.as_slice.result.now c.in-Turns.kind c.in-Turns.body c.as_slice.ensures (rw c.new-turns.ensures at c.perform_rows.ensures))

pub perform_part-perform_list-requires : goal.perform_part-perform_list-requires
perform_part-perform_list-requires g t c κs within =
    (let w = ap part_weight (ap mirror_part c.in-Over.is ∙ form_Over c.in-Over.step c.in-Over.at c.in-Over.name c.in-Over.list _ c.in-Over.body) in let e = ap parts_of c.as_slice-in-Over.ensures in let t = ap (λ x. parts_of x.body.now) c.new-turns-in-Over.ensures in omega arith, within)

pub perform_part-returns-in-Over : goal.perform_part-returns-in-Over
perform_part-returns-in-Over g t c =
    of_form c.args.code.now c.args.part.now (Over c.in-Over.step c.in-Over.at c.in-Over.name c.in-Over.list _ (mirror_parts c.in-Over.body))
    (ap mirror_part c.in-Over.is ∙ form_Over c.in-Over.step c.in-Over.at c.in-Over.name c.in-Over.list _ c.in-Over.body)
    (over_so c.args.code.now c.in-Over.step c.in-Over.at c.in-Over.name c.in-Over.list 0 c.as_slice-in-Over.result.now c.in-Over.body c.as_slice-in-Over.ensures (rw c.new-turns-in-Over.ensures at c.perform_list.ensures))

pub perform_rows-returns-in_err-turn_rows : goal.perform_rows-returns-in_err-turn_rows
perform_rows-returns-in_err-turn_rows g t c =
    rows_cut g.W.Sink c.args.code.now c.args.turns.now (local c.args.frame.now c.args.state.now) _ c.args.world.now _ c.turn_rows.result _ _
    c.turn_rows.ensures c.in_err-turn_rows.was (search rules)

pub perform_rows-returns : goal.perform_rows-returns
perform_rows-returns g t c =
    rows_so g.W.Sink c.args.code.now c.args.turns.now (local c.args.frame.now c.args.state.now) _ _ c.args.world.now _ _ c.turn_rows.result _ _
    c.turn_rows.ensures c.in_ok-turn_rows.was c.perform_pass.ensures

pub turn_rows-returns-in_default : goal.turn_rows-returns-in_default
turn_rows-returns-in_default g t c =
    turned_missed g.W.Sink c.args.code.now c.args.turns.now (local c.args.frame.now c.args.state.now) c.args.world.now _ _ _
    c.in_default.ensures.0 c.in_default.ensures.1 refl c.in_ok-missed.ensures refl

pub turn_rows-returns : goal.turn_rows-returns
turn_rows-returns g t c =
    turned_so g.W.Sink c.args.code.now c.args.turns.now c.in-Some.count (local c.args.frame.now c.args.state.now) _ c.args.world.now _ c.perform_turns-ended.new.world _ c.perform_turns-ended.result c.close.result
    c.in-Some.ensures refl c.perform_turns-ended.ensures refl c.close.ensures

pub perform_turn-returns : goal.perform_turn-returns
perform_turn-returns g t c =
    enclosed_so g.W.Sink (turn_meant c.args.code.now c.args.turns.now) (local c.args.frame.now c.args.state.now)
    (local c.perform_row-ended.new.frame c.perform_row-ended.new.state) (local c.truncate.new.self c.perform_row-ended.new.state) c.args.world.now c.perform_row-ended.new.world _ c.perform_row-ended.result
    c.close.result c.perform_row-ended.ensures refl c.close.ensures
    (ap (λ ns. local ns c.perform_row-ended.new.state) (c.truncate.ensures ∙ ap (λ n. take n c.perform_row-ended.new.frame) c.len-count.ensures))

pub perform_turns-nodes-init : goal.perform_turns-nodes-init
perform_turns-nodes-init g t c = turns_begin g.W.Sink c.args.code.now c.args.turns.now c.args.count (local c.args.frame.now c.args.state.now) c.args.world.now

pub perform_turns-returns-in_err-perform_turn : goal.perform_turns-returns-in_err-perform_turn
perform_turns-returns-in_err-perform_turn g t c =
    turns_cut c.turn.result (omega arith) c.nodes.invariant refl c.turn.ensures c.perform_turn.ensures c.in_err-perform_turn.was (search rules)

pub perform_turns-nodes-preserved : goal.perform_turns-nodes-preserved
perform_turns-nodes-preserved g t c = turns_next c.turn.result (omega arith) c.nodes.invariant refl c.turn.ensures c.perform_turn.ensures c.in_ok-perform_turn.was

pub perform_turns-returns : goal.perform_turns-returns
perform_turns-returns g t c = turns_end (omega arith) c.nodes.invariant

pub perform_row-returns-in_err-perform_bind : goal.perform_row-returns-in_err-perform_bind
perform_row-returns-in_err-perform_bind g t c =
    row_missed g.W.Sink c.args.code.now c.args.turns.now (local c.args.frame.now c.args.state.now) _ c.args.world.now _ c.perform_bind.result _ _ c.if-turns.true c.perform_bind.ensures c.in_err-perform_bind.was (search rules)

pub perform_row-returns-then-turns : goal.perform_row-returns-then-turns
perform_row-returns-then-turns g t c =
    row_kept g.W.Sink c.args.code.now c.args.turns.now (local c.args.frame.now c.args.state.now) _ _ c.args.world.now _ _ c.perform_bind.result _ _ c.if-turns.true c.perform_bind.ensures c.in_ok-perform_bind.was c.perform_all.ensures

pub perform_row-returns : goal.perform_row-returns
perform_row-returns g t c = row_none g.W.Sink c.args.code.now c.args.turns.now (local c.args.frame.now c.args.state.now) _ c.args.world.now _ _ c.if-turns.false c.perform_all-2.ensures

pub perform_list-returns-in_err-items : goal.perform_list-returns-in_err-items
perform_list-returns-in_err-items g t c =
    list_refused g.W.Sink c.args.code.now c.args.turns.now _ c.items_of.result (local c.args.frame.now c.args.state.now) c.args.world.now _ _
    refl c.items_of.ensures c.in_err-items.was (search rules)

pub perform_list-returns : goal.perform_list-returns
perform_list-returns g t c =
    list_so g.W.Sink c.args.code.now c.args.turns.now c.in_ok-items.items (local c.args.frame.now c.args.state.now) _ c.args.world.now _ c.turn_list.result
    (rw c.in_ok-items.was at c.items_of.ensures) (rw (c.as_slice.ensures ∙ c.get.ensures) at c.turn_list.ensures)

pub turn_list-returns-in_default : goal.turn_list-returns-in_default
turn_list-returns-in_default g t c =
    list_missed g.W.Sink c.args.code.now c.args.turns.now c.args.items.now (local c.args.frame.now c.args.state.now) c.args.world.now _ _ _
    c.in_default.ensures.0 c.in_default.ensures.1 refl c.in_ok-missed.ensures refl

pub turn_list-returns-in_err-ended : goal.turn_list-returns-in_err-ended
turn_list-returns-in_err-ended g t c =
    list_cut g.W.Sink c.args.code.now c.args.turns.now c.args.items.now _ _ c.in-Some.count (local c.args.frame.now c.args.state.now) _ c.args.world.now _ _ _ c.perform_items-ended.result c.close.result
    c.in-Some.ensures refl c.split_items.ensures.given c.split_items.ensures.lacking c.perform_items-ended.ensures refl c.close.ensures c.in_err-ended.was (search rules)

pub turn_list-returns : goal.turn_list-returns
turn_list-returns g t c =
    on_ends
    (list_on g.W.Sink c.args.code.now c.args.turns.now c.args.items.now _ _ c.in-Some.count (local c.args.frame.now c.args.state.now) _ c.args.world.now _ _ _ c.perform_items-ended.result c.close.result
    c.in-Some.ensures refl c.split_items.ensures.given c.split_items.ensures.lacking c.perform_items-ended.ensures refl c.close.ensures c.in_ok-ended.was)
    c.perform_lack.ensures

pub perform_item-returns : goal.perform_item-returns
perform_item-returns g t c =
    enclosed_so g.W.Sink (item_meant c.args.code.now c.args.turns.now c.args.item.now) (local c.args.frame.now c.args.state.now)
    (local c.perform_named-ended.new.frame c.perform_named-ended.new.state) (local c.truncate.new.self c.perform_named-ended.new.state) c.args.world.now c.perform_named-ended.new.world _ c.perform_named-ended.result
    c.close.result c.perform_named-ended.ensures refl c.close.ensures
    (ap (λ ns. local ns c.perform_named-ended.new.state) (c.truncate.ensures ∙ ap (λ n. take n c.perform_named-ended.new.frame) c.len-count.ensures))

pub perform_named-returns : goal.perform_named-returns
perform_named-returns g t c =
    item_so g.W.Sink c.args.code.now c.args.turns.now c.args.item.now (local c.args.frame.now c.args.state.now) (local c.bind.new.self c.args.state.now) _ c.args.world.now _ c.perform_all.result
    (ap (λ ns. local ns c.args.state.now)
    (c.in_ok-bind.ensures.bound ∙ ap (λ y. c.args.frame.now ++ (y, c.in_ok-value.value) ∷ []) c.as_slice.ensures ∙ ap (λ v. c.args.frame.now ++ (c.args.turns.now.name.now, v) ∷ []) c.in_ok-value.ensures))
    c.perform_all.ensures

pub perform_items-items-init : goal.perform_items-items-init
perform_items-items-init g t c = items_begin g.W.Sink c.args.code.now c.args.turns.now c.args.items.now (local c.args.frame.now c.args.state.now) c.args.world.now

pub perform_items-returns : goal.perform_items-returns
perform_items-returns g t c = items_end (drop_all c.items.item-index c.args.items.now (omega arith)) c.items.invariant

pub perform_items-items-preserved : goal.perform_items-items-preserved
perform_items-items-preserved g t c =
    items_next c.item-item.result (drop (c.items.item-index + 1) c.args.items.now) c.turn.result
    (rw (dropped_one c.args.items.now c.items.item-index c.item-item.result (omega arith) c.item-item.is) at c.items.invariant)
    (spent_due _ _ _ c.spend.result c.spend.ensures c.in_ok-spend.was) (spent_less _ _ _ _ c.spend.result c.spend.ensures c.in_ok-spend.was) refl c.turn.ensures c.perform_item.ensures c.in_ok-perform_item.was

pub perform_items-returns-in_err-perform_item : goal.perform_items-returns-in_err-perform_item
perform_items-returns-in_err-perform_item g t c =
    items_cut c.item-item.result (drop (c.items.item-index + 1) c.args.items.now) c.turn.result
    (rw (dropped_one c.args.items.now c.items.item-index c.item-item.result (omega arith) c.item-item.is) at c.items.invariant)
    (spent_due _ _ _ c.spend.result c.spend.ensures c.in_ok-spend.was) (spent_less _ _ _ _ c.spend.result c.spend.ensures c.in_ok-spend.was) refl c.turn.ensures c.perform_item.ensures c.in_err-perform_item.was (search rules)

pub perform_items-returns-in_err-spend : goal.perform_items-returns-in_err-spend
perform_items-returns-in_err-spend g t c =
    items_stop c.item-item.result (drop (c.items.item-index + 1) c.args.items.now) c.spend.result
    (rw (dropped_one c.args.items.now c.items.item-index c.item-item.result (omega arith) c.item-item.is) at c.items.invariant)
    c.spend.ensures c.in_err-spend.was (search rules)
