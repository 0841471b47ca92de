use Rattle.std.proofs.Common.{Err, sym, ap}
use Rattle.rb_meaning_code.specs.Dialogue as ask
use Rattle.rb_client.specs.Clients.{waiting}
use Rattle.rb_client.proofs.ClientAnswers.{answered_still}
use Rattle.rb_client.proofs.client_world.ClientWorldWorld.turn.Goals as goal

pub returns : goal.returns
returns g c = answered_still g.L.Link g.W.Sink c.args.self.now (ask.Turn c.args.at) (Err c.refuse.result) (λ h more. ap (λ r. (Err r, waiting h more)) (sym c.refuse.ensures))
