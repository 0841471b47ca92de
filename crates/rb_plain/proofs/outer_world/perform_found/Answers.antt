use Rattle.rb_engine.specs.Locals.{local}
use Rattle.rb_plain.proofs.Asked.{found_begins, found_faults}
use Rattle.rb_plain.proofs.outer_world.perform_found.Goals as goal

pub returns-then-too_many-clause-performs : goal.returns-then-too_many-clause-performs
returns-then-too_many-clause-performs g c =
    found_faults g.W.Sink c.args.world.now (local c.args.frame.now c.args.state.now) c.args.batch.now (c.args.root.0.now, c.args.root.1) c.in-Ok.too_many c.too_large.result
    (rw c.facts-facts.ensures at c.in-Ok.ensures) c.if-too_many.true c.too_large.ensures

pub returns-clause-performs : goal.returns-clause-performs
returns-clause-performs g c =
    found_begins g.W.Sink c.args.world.now c.perform.new.world (local c.args.frame.now c.args.state.now) (local c.perform.new.frame c.perform.new.state) c.args.batch.now (c.args.root.0.now, c.args.root.1) c.in-Ok.too_many c.perform.result
    (rw c.facts-facts.ensures at c.in-Ok.ensures) c.if-too_many.false c.perform.ensures.performs
