use Rattle.std.proofs.Common.{sym, ◌∙◌}
use Rattle.rb_wire_forest.specs.Opened.{opened}
use Rattle.rb_wire_forest.proofs.ForestWalked.{entry_told, fault_told, spare_left, entry_left, none_left, fault_there}
use Rattle.rb_wire_forest.proofs.forest_walk.leaves.Goals as goal
use Rattle.rb_wire_forest.proofs.forest_walk.leaves.Goals.{then-end-via-then-end, then-end-via-else-end+then-has_entry}

pub returns-then-end : goal.returns-then-end
returns-then-end c es f around h = elim c.then-end.branch [
  | then-end-via-then-end w ↦ spare_left c.args.end es f w.if-end.true
  | then-end-via-else-end+then-has_entry w ↦ entry_left c.args.end es f (sym (entry_told _ es f around h) ∙ sym w.has_entry.ensures ∙ w.if-has_entry.true)
]

pub returns-then-end-2 : goal.returns-then-end-2
returns-then-end-2 c es f around h = none_left c.args.end es f c.if-end.false (sym (entry_told _ es f around h) ∙ sym c.has_entry.ensures ∙ c.if-has_entry.false) c.if-end-2.true

pub returns : goal.returns
returns c es f around h =
    fault_there c.args.end es f c.fault_step.result (opened c.args.cursor.now) _ c.if-end.false (sym (entry_told _ es f around h) ∙ sym c.has_entry.ensures ∙ c.if-has_entry.false) c.if-end-2.false
    (fault_told _ es f around h) c.fault_step.ensures c.is_some.ensures
