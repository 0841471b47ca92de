use Rattle.std.proofs.Common.{arith, take, sym, ap, ◌∙◌}
use Rattle.rb_trees.specs.mirror.Code.{mirror_stmt}
use Rattle.rb_meaning_flow.specs.Forms.{placed_form}
use Rattle.rb_split.specs.Uses.{noted}
use Rattle.rb_split.specs.Views.{facts}
use Rattle.rb_split.proofs.Fronts.{opened_kept}
use Rattle.rb_split.proofs.Left.{IsBare, bare_plain, bare_scope, bare_used, for_left, if_left, others_bare, val_left}
use Rattle.rb_split.proofs.Walked.{on_any, on_ok}
use Rattle.rb_split.proofs.Weight.{stmt_in, stmt_of}
use Rattle.rb_split.proofs.inputs.+used.Goals.{note_stmt-in_default-via-in-Val+in_default, note_stmt-in_default-via-in-If+in_default, note_stmt-in_default-via-in-For+in_default, note_stmt-in_default-via-in_default}
use Rattle.rb_split.proofs.inputs.+used.Goals as goal

pub note_turn-returns-clause-scope : goal.note_turn-returns-clause-scope
note_turn-returns-clause-scope t c =
    c.truncate.ensures ∙ ap (λ n. take n c.note_stmts.new.scope) c.len-count.ensures
    ∙ opened_kept c.args.scope.now c.bind.new.self c.note_stmts.new.scope _ c.in_ok-bind.ensures c.in_ok-note_stmts.ensures.kept

pub note_stmt-returns-in_ok-note_kept-in_default-clause-uses : goal.note_stmt-returns-in_ok-note_kept-in_default-clause-uses
note_stmt-returns-in_ok-note_kept-in_default-clause-uses t c =
    let bare : IsBare (placed_form (facts c.args.x.now) c.args.scope.now (mirror_stmt c.args.s.now)) =
    elim c.in_default.branch [
      | note_stmt-in_default-via-in-Val+in_default w ↦ bare_plain (val_left (facts c.args.x.now) c.args.scope.now c.args.s.now c.placed_form.ensures w.in_default.is-0 w.in_default.not-CarriedVal-1)
      | note_stmt-in_default-via-in-If+in_default w ↦ bare_plain (if_left (facts c.args.x.now) c.args.scope.now c.args.s.now _ _ c.placed_form.ensures w.in_default.is-0 w.in_default.not-CarriedIf-1)
      | note_stmt-in_default-via-in-For+in_default w ↦ bare_plain (for_left (facts c.args.x.now) c.args.scope.now c.args.s.now _ c.placed_form.ensures w.in_default.is-0 w.in_default.not-RowsLoop-1 w.in_default.not-CarriedLoop-1)
      | note_stmt-in_default-via-in_default w ↦ others_bare (facts c.args.x.now) c.args.scope.now c.args.s.now w.in_default.not-Val-0 w.in_default.not-If-0 w.in_default.not-For-0
    ] in
    on_any c.bind_plain.result (c.in_ok-note_kept-in_default.ensures ∙ ap (noted c.args.uses.now) (sym (bare_used (facts c.args.x.now) c.args.scope.now (placed_form (facts c.args.x.now) c.args.scope.now (mirror_stmt c.args.s.now)) (mirror_stmt c.args.s.now) bare)))

pub note_stmt-returns-in_ok-note_kept-in_default-clause-scope : goal.note_stmt-returns-in_ok-note_kept-in_default-clause-scope
note_stmt-returns-in_ok-note_kept-in_default-clause-scope t c =
    let bare : IsBare (placed_form (facts c.args.x.now) c.args.scope.now (mirror_stmt c.args.s.now)) =
    elim c.in_default.branch [
      | note_stmt-in_default-via-in-Val+in_default w ↦ bare_plain (val_left (facts c.args.x.now) c.args.scope.now c.args.s.now c.placed_form.ensures w.in_default.is-0 w.in_default.not-CarriedVal-1)
      | note_stmt-in_default-via-in-If+in_default w ↦ bare_plain (if_left (facts c.args.x.now) c.args.scope.now c.args.s.now _ _ c.placed_form.ensures w.in_default.is-0 w.in_default.not-CarriedIf-1)
      | note_stmt-in_default-via-in-For+in_default w ↦ bare_plain (for_left (facts c.args.x.now) c.args.scope.now c.args.s.now _ c.placed_form.ensures w.in_default.is-0 w.in_default.not-RowsLoop-1 w.in_default.not-CarriedLoop-1)
      | note_stmt-in_default-via-in_default w ↦ others_bare (facts c.args.x.now) c.args.scope.now c.args.s.now w.in_default.not-Val-0 w.in_default.not-If-0 w.in_default.not-For-0
    ] in
    on_ok c.bind_plain.result c.bind_plain.new.scope (bare_scope (facts c.args.x.now) c.args.scope.now (mirror_stmt c.args.s.now) bare) c.bind_plain.ensures

pub note_stmts-note_stmt-requires : goal.note_stmts-note_stmt-requires
note_stmts-note_stmt-requires t c = let w = stmt_in c.args.ss.now c.stmts.s-index c.s-item.result (omega arith) in let e = ap stmt_of c.s-item.is in omega arith
