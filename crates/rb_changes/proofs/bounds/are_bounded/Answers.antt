-- One list more is within its bounds.
use Rattle.std.proofs.Common.{refl, subst, arith}
use Rattle.rb_meaning.specs.Changes.{AreBounded}
use Rattle.rb_changes.proofs.OneMore.{list_more}
use Rattle.rb_changes.proofs.bounds.are_bounded.Goals as goal

pub lists-preserved : goal.lists-preserved
lists-preserved c =
    list_more c.args.lists.now c.lists.list-index c.list-item.result (omega arith) c.list-item.is
    (subst AreBounded c.as_slice.ensures (c.if-not-is_list_bounded.ensures refl)) c.lists.invariant
