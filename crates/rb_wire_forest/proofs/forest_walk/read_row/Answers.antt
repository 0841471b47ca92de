use Rattle.std.proofs.Common.{sym, ◌∙◌}
use Rattle.rb_wire_forest.specs.Opened.{opened}
use Rattle.rb_wire_forest.proofs.ForestWalked.{row_dropped, row_fits, row_differs, row_missed}
use Rattle.rb_wire_forest.proofs.forest_walk.read_row.Goals as goal

pub returns-then-not-is_kept : goal.returns-then-not-is_kept
returns-then-not-is_kept c = row_dropped c.args.step c.args.kind c.args.from _ (sym c.is_kept.ensures ∙ c.if-not-is_kept.true)

pub returns-then-has_kind : goal.returns-then-has_kind
returns-then-has_kind c = row_fits c.args.step c.args.kind c.args.from _ _ _ (sym c.is_kept.ensures ∙ c.if-not-is_kept.false) c.in-Some.ensures (sym c.has_kind.ensures ∙ c.if-has_kind.true)

pub returns-else-has_kind : goal.returns-else-has_kind
returns-else-has_kind c = row_differs c.args.step c.args.kind c.args.from _ _ _ (sym c.is_kept.ensures ∙ c.if-not-is_kept.false) c.in-Some.ensures (sym c.has_kind.ensures ∙ c.if-has_kind.false)

pub returns-in-None : goal.returns-in-None
returns-in-None c = row_missed c.args.step c.args.kind c.args.from (opened c.args.cursor.now) (opened c.value.new.self) (sym c.is_kept.ensures ∙ c.if-not-is_kept.false) c.in-None.ensures.0
