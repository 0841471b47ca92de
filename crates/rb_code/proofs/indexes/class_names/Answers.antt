use Rattle.rb_code.proofs.Fresh.{next_class}
use Rattle.rb_code.proofs.indexes.class_names.Goals as goal

pub loop-class-preserved : goal.loop-class-preserved
loop-class-preserved c = next_class c.args.classes.now c.loop-class.class-index c.class-item.result c.as_slice.result.now c.in_ok-insert.field-0 c.loop-class.names c.insert.new.self
    c.requires c.loop-class-test.true c.class-item.is c.as_slice.ensures c.loop-class.invariant c.in_ok-insert.ensures.new c.in_ok-insert.ensures.added
