use Rattle.std.proofs.Common.{◌≡◌, true, rules}
use Rattle.std.specs.Prelude.{IsTrue}
use Rattle.rb_code.proofs.Grown.{classes_grown}
use Rattle.rb_code.proofs.distinct.classes_differ.Goals as goal

pub loop-class-preserved : goal.loop-class-preserved
loop-class-preserved c =
    let new : c.in_ok-insert.field-0 ≡ true = search rules in
    let own : IsTrue c.in_ok-methods_differ.field-0 = search rules in
    classes_grown c.args.classes.now c.loop-class.class-index c.class-item.result c.as_slice.result.now c.as_slice-in-loop-class.result.now c.in_ok-insert.field-0 c.loop-class.names c.insert.new.self
    c.loop-class-test.true c.class-item.is c.as_slice.ensures c.as_slice-in-loop-class.ensures c.loop-class.invariant new c.in_ok-insert.ensures.new c.in_ok-insert.ensures.added (c.in_ok-methods_differ.ensures own)
