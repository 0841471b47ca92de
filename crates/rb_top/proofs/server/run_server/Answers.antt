use Rattle.std.proofs.Common.{ap, refl}
use Rattle.rb_top.specs.Servers.{host_on, listens, no_service}
use Rattle.rb_top.specs.Words.{serving_by}
use Rattle.rb_top.proofs.Serving.{listens_moved}
use Rattle.rb_top.proofs.server.run_server.Goals as goal

pub returns-in-Err : goal.returns-in-Err
returns-in-Err g c = no_service c.in-Err.ensures.loads refl

pub returns-in-Ok : goal.returns-in-Ok
returns-in-Ok g c =
    let loads = c.in-Ok.ensures.loads in
    listens loads.text c.in-Ok.service c.in-Ok.table loads.holds.0 loads.is
    (listens_moved (host_on c.in-Ok.service c.in-Ok.table) (serving_by c.args.serving.now) c.listen_and_serve.result _ _ _ _ _ (ap (λ s. s.out) loads.left) c.listen_and_serve.ensures)
    (ap (λ s. s.files) loads.left)
