use Rattle.std.proofs.Common.{Ok, subst, sym}
use Rattle.rb_trees.specs.mirror.Services.{mirror_service}
use Rattle.rb_base.specs.Devices.{device}
use Rattle.rb_session.specs.Answering.{IsTypedHost}
use Rattle.rb_top.specs.Servers.{host_on}
use Rattle.rb_top.specs.Words.{serving_by}
use Rattle.rb_top.proofs.Differ.{served_classes_differ}
use Rattle.rb_top.proofs.Serving.{begins_so, starts_so}
use Rattle.rb_top.proofs.server.listen_and_serve.Goals as goal

pub make-requires : goal.make-requires
make-requires g c = served_classes_differ (mirror_service c.args.service) c.args.table c.requires

pub serve_host-requires : goal.serve_host-requires
serve_host-requires g c = subst IsTypedHost (sym c.in-Ok.ensures) c.requires

pub returns-in-Ok-start : goal.returns-in-Ok-start
returns-in-Ok-start g c =
    let listen = device g.N.Listen.told g.N.Listen.faults c.args.listen.now in
    let started = c.in-Ok-start.ensures in
    begins_so (host_on c.args.service c.args.table) c.in-Ok.host (serving_by c.args.serving.now) c.serve_host.result listen (device g.N.Listen.told g.N.Listen.faults c.start.new.self) _ _ _ c.in-Ok.ensures
    (starts_so c.args.serving.now.address.now listen (g.N.Listen.told c.start.new.self) (g.N.Listen.faults c.start.new.self) (Ok c.in-Ok-start.field-0) started.answer started.after started.faults) c.serve_host.ensures
