-- The service was read, and the requests to its server are kept.
use Rattle.std.proofs.Common.{ap, refl}
use Rattle.rb_trees.specs.mirror.Services.{mirror_service}
use Rattle.rb_base.specs.Devices.{device}
use Rattle.rb_disk.specs.Storing.{seen}
use Rattle.rb_top.specs.KeepRuns.{keeps_them, no_service_to_keep, starved_for_host}
use Rattle.rb_top.specs.Scene.{output}
use Rattle.rb_top.specs.Servers.{host_on}
use Rattle.rb_top.specs.Words.{keeping_by}
use Rattle.rb_top.proofs.Differ.{served_classes_differ}
use Rattle.rb_top.proofs.KeptEnds.{kept_moved}
use Rattle.rb_top.proofs.keep_run.run_keep.Goals as goal

pub make-requires : goal.make-requires
make-requires g c = served_classes_differ (mirror_service c.in-Ok.service) c.in-Ok.table c.in-Ok.ensures.typed

pub returns-in-Err : goal.returns-in-Err
returns-in-Err g c = no_service_to_keep c.in-Err.ensures.loads refl refl

pub returns-in-Ok-make : goal.returns-in-Ok-make
returns-in-Ok-make g c =
    let loads = c.in-Ok.ensures.loads in
    keeps_them loads.text c.in-Ok.service c.in-Ok.table loads.holds.0 loads.is
    (kept_moved g.T.D.Disk (keeping_by c.args.keeping.now) (host_on c.in-Ok.service c.in-Ok.table) c.in-Ok-make.host c.keep_on.result (device g.N.Listen.told g.N.Listen.faults c.args.listen.now)
    (device g.N.Listen.told g.N.Listen.faults c.keep_on.new.listen) (seen g.T.Stores.told g.T.Stores.faults g.T.Stores.broken c.args.stores.now) (seen g.T.Stores.told g.T.Stores.faults g.T.Stores.broken c.keep_on.new.stores)
    (output g.W.Sink c.args.out.now) (output g.W.Sink c.loaded_service.new.out) (output g.W.Sink c.keep_on.new.out) c.in-Ok-make.ensures (ap (λ s. s.out) loads.left) c.keep_on.ensures)
    (ap (λ s. s.files) loads.left)

pub returns-in-Err-make : goal.returns-in-Err-make
returns-in-Err-make g c =
    let loads = c.in-Ok.ensures.loads in
    keeps_them loads.text c.in-Ok.service c.in-Ok.table loads.holds.0 loads.is (starved_for_host refl refl refl (ap (λ s. s.out) loads.left)) (ap (λ s. s.files) loads.left)
