use Rattle.std.proofs.Common.{◌≡◌, true, rules}
use Rattle.rb_code.proofs.Grown.{methods_grown}
use Rattle.rb_code.proofs.distinct.methods_differ.Goals as goal

pub loop-method-preserved : goal.loop-method-preserved
loop-method-preserved c =
    let new : c.in_ok-insert.field-0 ≡ true = search rules in
    methods_grown c.args.methods.now c.loop-method.method-index c.method-item.result c.as_slice.result.now c.in_ok-insert.field-0 c.loop-method.names c.insert.new.self
    c.loop-method-test.true c.method-item.is c.as_slice.ensures c.loop-method.invariant new c.in_ok-insert.ensures.new c.in_ok-insert.ensures.added
