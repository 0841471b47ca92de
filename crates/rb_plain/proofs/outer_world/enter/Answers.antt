use Rattle.std.proofs.Common.{rules, refl}
use Rattle.rb_plain.proofs.BatchFound.{entered_so}
use Rattle.rb_plain.proofs.outer_world.enter.Goals as goal

pub returns : goal.returns
returns g c =
    entered_so c.args.root.now c.args.batch.now c.begin.result c.args.world.now c.come.new.self
    (record { batches = c.come.new.self.batches; inner = record { remote = c.begin.new.world; out = c.come.new.self.inner.out }; exchanges = c.in-Some.exchanges; others = c.come.new.self.others })
    c.args.frame.now c.begin.new.frame c.in_ok-come.ensures c.begin.ensures refl refl refl (search rules)
