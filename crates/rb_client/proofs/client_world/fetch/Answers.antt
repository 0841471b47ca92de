use Rattle.std.proofs.Common.{refl}
use Rattle.rb_client.proofs.ClientAnswers.{fetch_so}
use Rattle.rb_client.proofs.client_world.fetch.Goals as goal

pub returns : goal.returns
returns g c =
    fetch_so g.L.Link c.args.split.now c.args.frame.now c.args.world.now _ c.in_ok-request.request.items c.as_slice.result.now c.send.result c.as_slice.ensures c.requires.sent c.in_ok-request.ensures c.send.ensures refl refl refl refl
