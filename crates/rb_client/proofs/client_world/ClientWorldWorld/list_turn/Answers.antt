use Rattle.std.proofs.Common.{Ok, refl}
use Rattle.rb_trees.specs.declared.values.Value.TheVariants as value
use Rattle.rb_meaning_code.specs.Dialogue as ask
use Rattle.rb_client.proofs.ClientAnswers.{answered_still}
use Rattle.rb_client.proofs.client_world.ClientWorldWorld.list_turn.Goals as goal

pub returns : goal.returns
returns g c = answered_still g.L.Link g.W.Sink c.args.self.now (ask.ListTurn c.args._at) (Ok value.Unit) (λ h more. refl)
