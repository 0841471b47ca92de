-- The address is listened on.
use Rattle.std.proofs.Common.{Ok}
use Rattle.rb_base.specs.Devices.{device}
use Rattle.rb_disk.specs.Storing.{seen}
use Rattle.rb_top.specs.Scene.{output}
use Rattle.rb_top.specs.Words.{keeping_by}
use Rattle.rb_top.proofs.KeptEnds.{listened}
use Rattle.rb_top.proofs.Serving.{starts_so}
use Rattle.rb_top.proofs.keep_run.listen_and_keep.Goals as goal

pub returns-in-Ok : goal.returns-in-Ok
returns-in-Ok g c =
    let listen = device g.N.Listen.told g.N.Listen.faults c.args.listen.now in
    let started = c.in-Ok.ensures in
    listened g.T.D.Disk (keeping_by c.args.keeping.now) c.args.kept c.keep_sessions.result listen (device g.N.Listen.told g.N.Listen.faults c.start.new.self)
    (device g.N.Listen.told g.N.Listen.faults c.keep_sessions.new.listen) (seen g.T.Stores.told g.T.Stores.faults g.T.Stores.broken c.args.stores.now)
    (seen g.T.Stores.told g.T.Stores.faults g.T.Stores.broken c.keep_sessions.new.stores) (output g.W.Sink c.args.out.now) (output g.W.Sink c.keep_sessions.new.out)
    (starts_so c.args.keeping.now.serving.address.now listen (g.N.Listen.told c.start.new.self) (g.N.Listen.faults c.start.new.self) (Ok c.in-Ok.field-0) started.answer started.after started.faults) c.keep_sessions.ensures
