-- The value's entry alone.
use Rattle.rb_trees.specs.mirror.Forests as forest
use Rattle.rb_exec.proofs.Entries.{one_added}
use Rattle.rb_exec.proofs.nodes.put_entry.Goals as goal

pub returns-clause-ok : goal.returns-clause-ok
returns-clause-ok c =
    one_added (forest.Value c.args.value.now) c.args.bytes.now.items c.put_value_entry.new.bytes.items c.args.count.now c.add_one.new.count c.in_ok-put_value_entry.ensures.ok c.add_one.ensures
