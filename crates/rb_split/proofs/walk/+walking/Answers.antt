use Rattle.std.proofs.Common.{◌≡◌, arith, take, refl, sym, ap, ◌∙◌}
use Rattle.rb_trees.specs.mirror.Code.{mirror_expr, mirror_stmt, mirror_stmts}
use Rattle.rb_trees.specs.mirror.Declarations.{mirror_program}
use Rattle.rb_meaning_flow.specs.declared.forms.PlacedForm.{PlacedForm}
use Rattle.rb_meaning_flow.specs.Forms.{placed_form}
use Rattle.rb_meaning_split.specs.Steps.{refs_after_as}
use Rattle.rb_split.specs.Drafts.{drafted}
use Rattle.rb_split.specs.Views.{facts, refs_of}
use Rattle.rb_split.proofs.Forms.{for_form, if_form, run_form, val_form}
use Rattle.rb_split.proofs.Fronts.{opened_kept}
use Rattle.rb_split.proofs.Left.{bare_plain, bare_scope, call_holds, for_left, if_left, others_left, run_left, val_left, val_scope}
use Rattle.rb_split.proofs.Walked.{branch_so, for_over, for_turns, formed, if_branch, left_so, on_any, on_ok, run_do, turn_of}
use Rattle.rb_split.proofs.Weight.{stmt_in, stmt_of, stmt_weight, stmts_of}
use Rattle.rb_split.proofs.walk.+walking.Goals.{draft_stmt-in_default-via-in-Val+in_default, draft_stmt-in_default-via-in-Run+in_default, draft_stmt-in_default-via-in-If+in_default, draft_stmt-in_default-via-in-For+in_default, draft_stmt-in_default-via-in_default}
use Rattle.rb_split.proofs.walk.+walking.Goals as goal

pub draft_stmt-returns-in_ok-bind-in-Val-CarriedVal-clause-drafted : goal.draft_stmt-returns-in_ok-bind-in-Val-CarriedVal-clause-drafted
draft_stmt-returns-in_ok-bind-in-Val-CarriedVal-clause-drafted t c =
    on_any c.bind-in-Val-CarriedVal.result
    ((rw (c.of.ensures.facts, c.of.ensures.refs) at c.in_ok-draft_carried-in-Val-CarriedVal.ensures)
    ∙ sym (formed (mirror_program c.args.x.now) (refs_of c.args.refs.now) c.args.scope.now (drafted c.args.draft.now) (mirror_stmt c.args.s.now) _ (sym c.placed_form.ensures ∙ c.in-Val-CarriedVal.is-1) (val_form c.args.s.now c.in-Val-CarriedVal.is-0) refl))

pub draft_stmt-returns-in_ok-bind-in-Val-CarriedVal-clause-scope : goal.draft_stmt-returns-in_ok-bind-in-Val-CarriedVal-clause-scope
draft_stmt-returns-in_ok-bind-in-Val-CarriedVal-clause-scope t c =
    on_ok c.bind-in-Val-CarriedVal.result c.bind-in-Val-CarriedVal.new.self (val_scope (facts c.args.x.now) c.args.scope.now c.args.s.now (sym c.placed_form.ensures ∙ c.in-Val-CarriedVal.is-1) c.in-Val-CarriedVal.is-0) c.bind-in-Val-CarriedVal.ensures

pub draft_stmt-returns-in-Run-CallAlone-clause-drafted : goal.draft_stmt-returns-in-Run-CallAlone-clause-drafted
draft_stmt-returns-in-Run-CallAlone-clause-drafted t c =
    on_ok c.draft_do.result (drafted c.draft_do.new.draft)
    (sym (formed (mirror_program c.args.x.now) (refs_of c.args.refs.now) c.args.scope.now (drafted c.args.draft.now) (mirror_stmt c.args.s.now) _ (sym c.placed_form.ensures ∙ c.in-Run-CallAlone.is-1) (run_form c.args.s.now c.in-Run-CallAlone.is-0)
    (run_do (mirror_program c.args.x.now) (refs_of c.args.refs.now) c.args.scope.now (drafted c.args.draft.now) c.args.s.now.at (mirror_expr c.in-Run-CallAlone.e) (call_holds (facts c.args.x.now) c.args.scope.now c.args.s.now (sym c.placed_form.ensures ∙ c.in-Run-CallAlone.is-1) c.in-Run-CallAlone.is-0))))
    (rw (c.of-in-Run-CallAlone.ensures.facts, c.of-in-Run-CallAlone.ensures.refs) at c.draft_do.ensures)

pub draft_stmt-returns-in_ok-no-in-If-CarriedIf-clause-drafted : goal.draft_stmt-returns-in_ok-no-in-If-CarriedIf-clause-drafted
draft_stmt-returns-in_ok-no-in-If-CarriedIf-clause-drafted t c =
    on_ok c.close_branch.result (drafted c.close_branch.new.draft)
    (branch_so (mirror_program c.args.x.now) c.args.refs.now c.draft_block.new.refs c.draft_block-in-If-CarriedIf.new.refs c.args.scope.now c.draft_block.new.scope (drafted c.args.draft.now) (drafted c.new-yes.result) (drafted c.new-no.result)
    (drafted c.in_ok-yes-in-If-CarriedIf.yes) (drafted c.in_ok-no-in-If-CarriedIf.no) c.args.s.now.at (mirror_expr c.in-If-CarriedIf.c) c.in-If-CarriedIf.a c.in-If-CarriedIf.b c.as_slice.result.now c.as_slice-in-If-CarriedIf.result.now c.in_ok-next-in-If-CarriedIf.field-0
    c.as_slice.ensures c.as_slice-in-If-CarriedIf.ensures c.in_ok-next-in-If-CarriedIf.ensures c.in_ok-yes-in-If-CarriedIf.ensures.refs c.in_ok-yes-in-If-CarriedIf.ensures.scope c.in_ok-no-in-If-CarriedIf.ensures.refs
    c.new-yes.ensures c.new-no.ensures c.in_ok-yes-in-If-CarriedIf.ensures.drafted c.in_ok-no-in-If-CarriedIf.ensures.drafted
    ∙ sym (formed (mirror_program c.args.x.now) (refs_of c.args.refs.now) c.args.scope.now (drafted c.args.draft.now) (mirror_stmt c.args.s.now) _ (sym c.placed_form.ensures ∙ c.in-If-CarriedIf.is-1) (if_form c.args.s.now c.in-If-CarriedIf.a c.in-If-CarriedIf.b c.in-If-CarriedIf.is-0)
    (if_branch (mirror_program c.args.x.now) (refs_of c.args.refs.now) c.args.scope.now (drafted c.args.draft.now) c.args.s.now.at (mirror_expr c.in-If-CarriedIf.c) (mirror_stmts c.in-If-CarriedIf.a) (mirror_stmts c.in-If-CarriedIf.b))))
    (rw (c.of-in-If-CarriedIf.ensures.facts, c.of-in-If-CarriedIf.ensures.refs) at c.close_branch.ensures)

pub draft_stmt-returns-in_ok-body-in-For-RowsLoop-clause-drafted : goal.draft_stmt-returns-in_ok-body-in-For-RowsLoop-clause-drafted
draft_stmt-returns-in_ok-body-in-For-RowsLoop-clause-drafted t c =
    on_ok c.close_turns.result (drafted c.close_turns.new.draft)
    (sym (formed (mirror_program c.args.x.now) (refs_of c.args.refs.now) c.args.scope.now (drafted c.args.draft.now) (mirror_stmt c.args.s.now) _ (sym c.placed_form.ensures ∙ c.in-For-RowsLoop.is-1) (for_form c.args.s.now c.in-For-RowsLoop.a c.in-For-RowsLoop.is-0)
    (for_turns (mirror_program c.args.x.now) c.args.refs.now c.draft_turn.new.refs c.args.scope.now (drafted c.args.draft.now) (drafted c.in_ok-body-in-For-RowsLoop.body) c.args.s.now.at c.in-For-RowsLoop.name (mirror_expr c.in-For-RowsLoop.e) (mirror_stmts c.in-For-RowsLoop.a)
    c.in_ok-body-in-For-RowsLoop.ensures.refs
    (turn_of (mirror_program c.args.x.now) (refs_of c.args.refs.now) c.args.scope.now (drafted c.args.draft.now) (drafted c.in_ok-body-in-For-RowsLoop.body)
    c.of-turns.ensures.at c.of-turns.ensures.name c.of-turns.ensures.block c.in_ok-body-in-For-RowsLoop.ensures.drafted))))
    (rw (c.of-in-For-RowsLoop.ensures.facts, c.of-in-For-RowsLoop.ensures.refs) at c.close_turns.ensures)

pub draft_stmt-returns-in_ok-body-in-For-CarriedLoop-clause-drafted : goal.draft_stmt-returns-in_ok-body-in-For-CarriedLoop-clause-drafted
draft_stmt-returns-in_ok-body-in-For-CarriedLoop-clause-drafted t c =
    on_ok c.close_over.result (drafted c.close_over.new.draft)
    (sym (formed (mirror_program c.args.x.now) (refs_of c.args.refs.now) c.args.scope.now (drafted c.args.draft.now) (mirror_stmt c.args.s.now) _ (sym c.placed_form.ensures ∙ c.in-For-CarriedLoop.is-1) (for_form c.args.s.now c.in-For-CarriedLoop.a c.in-For-CarriedLoop.is-0)
    (for_over (mirror_program c.args.x.now) c.args.refs.now c.draft_turn-in-For-CarriedLoop.new.refs c.args.scope.now (drafted c.args.draft.now) (drafted c.in_ok-body-in-For-CarriedLoop.body) c.args.s.now.at c.in-For-CarriedLoop.name (mirror_expr c.in-For-CarriedLoop.e) (mirror_stmts c.in-For-CarriedLoop.a)
    c.in_ok-body-in-For-CarriedLoop.ensures.refs
    (turn_of (mirror_program c.args.x.now) (refs_of c.args.refs.now) c.args.scope.now (drafted c.args.draft.now) (drafted c.in_ok-body-in-For-CarriedLoop.body)
    c.of-turns-in-For-CarriedLoop.ensures.at c.of-turns-in-For-CarriedLoop.ensures.name c.of-turns-in-For-CarriedLoop.ensures.block c.in_ok-body-in-For-CarriedLoop.ensures.drafted))))
    (rw (c.of-in-For-CarriedLoop.ensures.facts, c.of-in-For-CarriedLoop.ensures.refs) at c.close_over.ensures)

pub draft_turn-returns-clause-scope : goal.draft_turn-returns-clause-scope
draft_turn-returns-clause-scope t c =
    c.truncate.ensures ∙ ap (λ n. take n c.draft_all.new.scope) c.len-variables.ensures
    ∙ opened_kept c.args.scope.now c.bind-2.new.self c.draft_all.new.scope _ c.in_ok-bind-2.ensures c.in_ok-draft_all.ensures.scope

pub draft_turn-returns-clause-refs : goal.draft_turn-returns-clause-refs
draft_turn-returns-clause-refs t c =
    c.truncate-2.ensures ∙ ap (λ n. take n c.draft_all.new.refs) c.len-names.ensures
    ∙ opened_kept c.args.refs.now c.bind.new.self c.draft_all.new.refs _ c.in_ok-bind.ensures c.in_ok-draft_all.ensures.refs

pub draft_stmt-returns-in_ok-draft_plain-in_default-clause-drafted : goal.draft_stmt-returns-in_ok-draft_plain-in_default-clause-drafted
draft_stmt-returns-in_ok-draft_plain-in_default-clause-drafted t c =
    let plain : placed_form (facts c.args.x.now) c.args.scope.now (mirror_stmt c.args.s.now) ≡ PlacedForm.Plain =
    elim c.in_default.branch [
      | draft_stmt-in_default-via-in-Val+in_default w ↦ val_left (facts c.args.x.now) c.args.scope.now c.args.s.now c.placed_form.ensures w.in_default.is-0 w.in_default.not-CarriedVal-1
      | draft_stmt-in_default-via-in-Run+in_default w ↦ run_left (facts c.args.x.now) c.args.scope.now c.args.s.now c.placed_form.ensures w.in_default.is-0 w.in_default.not-CallAlone-1
      | draft_stmt-in_default-via-in-If+in_default w ↦ if_left (facts c.args.x.now) c.args.scope.now c.args.s.now _ _ c.placed_form.ensures w.in_default.is-0 w.in_default.not-CarriedIf-1
      | draft_stmt-in_default-via-in-For+in_default w ↦ for_left (facts c.args.x.now) c.args.scope.now c.args.s.now _ c.placed_form.ensures w.in_default.is-0 w.in_default.not-RowsLoop-1 w.in_default.not-CarriedLoop-1
      | draft_stmt-in_default-via-in_default w ↦ others_left (facts c.args.x.now) c.args.scope.now c.args.s.now w.in_default.not-Val-0 w.in_default.not-Run-0 w.in_default.not-If-0 w.in_default.not-For-0
    ] in
    on_any c.bind_plain.result ((rw (c.of-in_default.ensures.facts, c.of-in_default.ensures.refs) at c.in_ok-draft_plain-in_default.ensures) ∙ sym (left_so (mirror_program c.args.x.now) (refs_of c.args.refs.now) c.args.scope.now (drafted c.args.draft.now) (mirror_stmt c.args.s.now) plain))

pub draft_stmt-returns-in_ok-draft_plain-in_default-clause-scope : goal.draft_stmt-returns-in_ok-draft_plain-in_default-clause-scope
draft_stmt-returns-in_ok-draft_plain-in_default-clause-scope t c =
    let plain : placed_form (facts c.args.x.now) c.args.scope.now (mirror_stmt c.args.s.now) ≡ PlacedForm.Plain =
    elim c.in_default.branch [
      | draft_stmt-in_default-via-in-Val+in_default w ↦ val_left (facts c.args.x.now) c.args.scope.now c.args.s.now c.placed_form.ensures w.in_default.is-0 w.in_default.not-CarriedVal-1
      | draft_stmt-in_default-via-in-Run+in_default w ↦ run_left (facts c.args.x.now) c.args.scope.now c.args.s.now c.placed_form.ensures w.in_default.is-0 w.in_default.not-CallAlone-1
      | draft_stmt-in_default-via-in-If+in_default w ↦ if_left (facts c.args.x.now) c.args.scope.now c.args.s.now _ _ c.placed_form.ensures w.in_default.is-0 w.in_default.not-CarriedIf-1
      | draft_stmt-in_default-via-in-For+in_default w ↦ for_left (facts c.args.x.now) c.args.scope.now c.args.s.now _ c.placed_form.ensures w.in_default.is-0 w.in_default.not-RowsLoop-1 w.in_default.not-CarriedLoop-1
      | draft_stmt-in_default-via-in_default w ↦ others_left (facts c.args.x.now) c.args.scope.now c.args.s.now w.in_default.not-Val-0 w.in_default.not-Run-0 w.in_default.not-If-0 w.in_default.not-For-0
    ] in
    on_ok c.bind_plain.result c.bind_plain.new.scope (bare_scope (facts c.args.x.now) c.args.scope.now (mirror_stmt c.args.s.now) (bare_plain plain)) c.bind_plain.ensures

pub draft_stmt-returns-in_ok-draft_plain-in_default-clause-refs : goal.draft_stmt-returns-in_ok-draft_plain-in_default-clause-refs
draft_stmt-returns-in_ok-draft_plain-in_default-clause-refs t c =
    let plain : placed_form (facts c.args.x.now) c.args.scope.now (mirror_stmt c.args.s.now) ≡ PlacedForm.Plain =
    elim c.in_default.branch [
      | draft_stmt-in_default-via-in-Val+in_default w ↦ val_left (facts c.args.x.now) c.args.scope.now c.args.s.now c.placed_form.ensures w.in_default.is-0 w.in_default.not-CarriedVal-1
      | draft_stmt-in_default-via-in-Run+in_default w ↦ run_left (facts c.args.x.now) c.args.scope.now c.args.s.now c.placed_form.ensures w.in_default.is-0 w.in_default.not-CallAlone-1
      | draft_stmt-in_default-via-in-If+in_default w ↦ if_left (facts c.args.x.now) c.args.scope.now c.args.s.now _ _ c.placed_form.ensures w.in_default.is-0 w.in_default.not-CarriedIf-1
      | draft_stmt-in_default-via-in-For+in_default w ↦ for_left (facts c.args.x.now) c.args.scope.now c.args.s.now _ c.placed_form.ensures w.in_default.is-0 w.in_default.not-RowsLoop-1 w.in_default.not-CarriedLoop-1
      | draft_stmt-in_default-via-in_default w ↦ others_left (facts c.args.x.now) c.args.scope.now c.args.s.now w.in_default.not-Val-0 w.in_default.not-Run-0 w.in_default.not-If-0 w.in_default.not-For-0
    ] in
    on_any c.bind_plain.result (sym (ap (λ f. refs_after_as (mirror_program c.args.x.now) f (refs_of c.args.refs.now) c.args.draft.now.var (mirror_stmt c.args.s.now)) plain))

pub draft_all-draft_stmt-requires : goal.draft_all-draft_stmt-requires
draft_all-draft_stmt-requires t c = let w = stmt_in c.args.ss.now c.stmts.s-index c.s-item.result (omega arith) in let e = ap stmt_of c.s-item.is in omega arith

pub draft_stmt-draft_block-requires : goal.draft_stmt-draft_block-requires
draft_stmt-draft_block-requires t c =
    let w = ap stmt_weight (if_form c.args.s.now c.in-If-CarriedIf.a c.in-If-CarriedIf.b c.in-If-CarriedIf.is-0) in let e = ap stmts_of c.as_slice.ensures in omega arith

pub draft_stmt-draft_block-requires-in-If-CarriedIf : goal.draft_stmt-draft_block-requires-in-If-CarriedIf
draft_stmt-draft_block-requires-in-If-CarriedIf t c =
    let w = ap stmt_weight (if_form c.args.s.now c.in-If-CarriedIf.a c.in-If-CarriedIf.b c.in-If-CarriedIf.is-0) in let e = ap stmts_of c.as_slice-in-If-CarriedIf.ensures in omega arith
