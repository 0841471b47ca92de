use Rattle.std.proofs.Common.{◌≡◌, ◌+◌, ◌*◌, drop}
use Rattle.serde_json.specs.View.{view, items_view}
use Rattle.rb_json.specs.Counts.{count, count_items}
use Rattle.rb_json.specs.Exprs.{exprs_in}
use Rattle.rb_json.proofs.Worded.{exprs_onto}
use Rattle.rb_json.proofs.reader.Reader.+exprs.Given as goal

abbrev pub decreases-expr : goal.decreases-expr
decreases-expr l = 4 * count (view l.value.now)

abbrev pub decreases-expr_by : goal.decreases-expr_by
decreases-expr_by l = 4 * count_items (items_view l.parts.now) + 2

abbrev pub decreases-unary : goal.decreases-unary
decreases-unary l = 4 * count_items (items_view l.parts.now) + 1

abbrev pub decreases-binary : goal.decreases-binary
decreases-binary l = 4 * count_items (items_view l.parts.now) + 1

abbrev pub decreases-call : goal.decreases-call
decreases-call l = 4 * count_items (items_view l.parts.now) + 1

abbrev pub decreases-operands : goal.decreases-operands
decreases-operands l = 4 * (count (view l.left.now) + count (view l.right.now)) + 1

abbrev pub decreases-exprs : goal.decreases-exprs
decreases-exprs l = 4 * count (view l.value.now)

abbrev pub decreases-expr_list : goal.decreases-expr_list
decreases-expr_list l = 4 * count_items (items_view l.items.now) + 1

-- behind the expressions that were read comes what the rest gives
abbrev pub invariant-expr_list-loop-item : goal.invariant-expr_list-loop-item
invariant-expr_list-loop-item l =
    (exprs_onto l.exprs (exprs_in l.self.place (items_view (drop l.item-index l.items))) ≡ exprs_in l.initial.self.place (items_view l.items))
    × (l.self.place + count_items (items_view (drop l.item-index l.items)) ≡ l.initial.self.place + count_items (items_view l.items))
