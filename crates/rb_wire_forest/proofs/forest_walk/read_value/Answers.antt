use Rattle.std.proofs.Common.{sym, ◌∙◌}
use Rattle.rb_wire_forest.proofs.ForestWalked.{value_fits, value_differs, value_missed}
use Rattle.rb_wire_forest.proofs.forest_walk.read_value.Goals as goal

pub returns-then-has_kind : goal.returns-then-has_kind
returns-then-has_kind c = value_fits c.args.step c.args.kind c.args.from _ _ _ c.in-Some.ensures (sym c.has_kind.ensures ∙ c.if-has_kind.true)

pub returns-else-has_kind : goal.returns-else-has_kind
returns-else-has_kind c = value_differs c.args.step c.args.kind c.args.from _ _ _ c.in-Some.ensures (sym c.has_kind.ensures ∙ c.if-has_kind.false)

pub returns-in-None : goal.returns-in-None
returns-in-None c = value_missed c.args.step c.args.kind c.args.from _ _ _ c.in-None.ensures.0 c.in-None.ensures.1 c.miss.ensures
