use Rattle.rb_top.specs.Words.{child_of, serving_by}
use Rattle.rb_top.proofs.Serving.{serves_so}
use Rattle.rb_top.proofs.server.run_child.Goals as goal

pub returns : goal.returns
returns g c = serves_so (serving_by c.of_child.result) (child_of c.args.service.now) c.run_server.result _ _ _ _ c.of_child.ensures c.run_server.ensures
