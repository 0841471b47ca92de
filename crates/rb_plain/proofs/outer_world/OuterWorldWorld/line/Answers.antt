use Rattle.std.proofs.Common.{refl}
use Rattle.rb_plain.proofs.Answering.{line_answered}
use Rattle.rb_plain.proofs.outer_world.OuterWorldWorld.line.Goals as goal

pub returns : goal.returns
returns g c = line_answered g.W.Sink c.args.self.now _ c.args._at c.args.bytes.now c.print.result refl refl refl c.print.ensures
