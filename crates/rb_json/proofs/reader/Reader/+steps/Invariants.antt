use Rattle.std.proofs.Common.{◌≡◌, ◌+◌, ◌*◌, drop}
use Rattle.serde_json.specs.View.{view, items_view}
use Rattle.rb_json.specs.Counts.{count, count_items}
use Rattle.rb_json.specs.Steps.{steps_in}
use Rattle.rb_json.proofs.Blocks.{steps_onto}
use Rattle.rb_json.proofs.reader.Reader.+steps.Given as goal

abbrev pub decreases-step : goal.decreases-step
decreases-step l = 4 * count (view l.value.now)

abbrev pub decreases-step_by : goal.decreases-step_by
decreases-step_by l = 4 * count_items (items_view l.parts.now) + 2

abbrev pub decreases-if_step : goal.decreases-if_step
decreases-if_step l = 4 * count_items (items_view l.parts.now) + 1

abbrev pub decreases-each_step : goal.decreases-each_step
decreases-each_step l = 4 * count_items (items_view l.parts.now) + 1

abbrev pub decreases-over_step : goal.decreases-over_step
decreases-over_step l = 4 * count_items (items_view l.parts.now) + 1

abbrev pub decreases-branches : goal.decreases-branches
decreases-branches l = 4 * (count (view l.yes.now) + count (view l.no.now)) + 1

abbrev pub decreases-steps : goal.decreases-steps
decreases-steps l = 4 * count (view l.value.now)

abbrev pub decreases-step_list : goal.decreases-step_list
decreases-step_list l = 4 * count_items (items_view l.items.now) + 1

-- behind the steps that were read comes what the rest gives
abbrev pub invariant-step_list-loop-item : goal.invariant-step_list-loop-item
invariant-step_list-loop-item l =
    (steps_onto l.steps (steps_in l.self.place (items_view (drop l.item-index l.items))) ≡ steps_in l.initial.self.place (items_view l.items))
    × (l.self.place + count_items (items_view (drop l.item-index l.items)) ≡ l.initial.self.place + count_items (items_view l.items))
