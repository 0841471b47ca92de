use Rattle.rb_code.proofs.Fresh.{next_method}
use Rattle.rb_code.proofs.indexes.method_names.Goals as goal

pub loop-method-preserved : goal.loop-method-preserved
loop-method-preserved c = next_method c.args.methods.now c.loop-method.method-index c.method-item.result c.as_slice.result.now c.in_ok-insert.field-0 c.loop-method.names c.insert.new.self
    c.requires c.loop-method-test.true c.method-item.is c.as_slice.ensures c.loop-method.invariant c.in_ok-insert.ensures.new c.in_ok-insert.ensures.added
