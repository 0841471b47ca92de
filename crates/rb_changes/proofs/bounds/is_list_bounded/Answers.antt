-- One change more is within its bounds.
use Rattle.std.proofs.Common.{refl, arith}
use Rattle.rb_changes.proofs.OneMore.{change_more}
use Rattle.rb_changes.proofs.bounds.is_list_bounded.Goals as goal

pub changes-preserved : goal.changes-preserved
changes-preserved c =
    change_more c.args.changes.now c.changes.change-index c.change-item.result (omega arith) c.change-item.is (c.if-not-is_bounded.ensures refl) c.changes.invariant
