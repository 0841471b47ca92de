-- One change more is applied than before.
use Rattle.std.proofs.Common.{ap, ◌∙◌, sym, arith}
use Rattle.rb_meaning.specs.Changes.{changed}
use Rattle.rb_changes.proofs.Fronts.{one_more}
use Rattle.rb_changes.proofs.changes.apply_all.Goals as goal

pub changes-preserved : goal.changes-preserved
changes-preserved c =
    c.in_ok-apply.ensures.ok
    ∙ ap (changed c.change-item.result) c.changes.invariant
    ∙ sym (one_more c.args.changes.now c.changes.change-index c.change-item.result c.args.heap.now (omega arith) c.change-item.is)
