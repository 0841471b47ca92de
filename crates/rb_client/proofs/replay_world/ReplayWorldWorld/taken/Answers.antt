use Rattle.rb_client.proofs.Answering.{taken_answered}
use Rattle.rb_client.proofs.replay_world.ReplayWorldWorld.taken.Goals as goal

pub returns : goal.returns
returns g c = taken_answered g.W.Sink c.args.self.now c.take.new.self c.args.step c.take.result c.step_of.result c.step_of.ensures c.take.ensures
