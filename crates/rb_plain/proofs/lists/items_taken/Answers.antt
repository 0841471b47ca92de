use Rattle.std.proofs.Common.{arith}
use Rattle.rb_plain.proofs.Listed.{names_more}
use Rattle.rb_plain.proofs.lists.items_taken.Goals as goal

pub names-preserved : goal.names-preserved
names-preserved c =
    names_more c.args.frame.now c.args.names.now c.names.name-index _ c.name-item.result c.names.counted c.count_list.new.counted (omega arith) c.name-item.is c.in_ok-count_list.ensures c.names.invariant
