use Rattle.rb_engine.specs.Locals.{local}
use Rattle.rb_client.proofs.Parted.{plain_so}
use Rattle.rb_client.proofs.pieces.perform_plain.Goals as goal

pub returns : goal.returns
returns g c =
    plain_so g.W.Sink c.args.code.now c.args.stmt.now c.from_ref-body.result.now (local c.args.frame.now c.args.state.now) (local c.exec_early.new.frame c.exec_early.new.state) c.args.world.now c.exec_early.new.world
    c.exec_early.result c.early_of.result c.from_ref-body.ensures.value c.early_of.ensures c.exec_early.ensures
