use Rattle.std.proofs.lemmas.Result.{err_from_is_err_and}
use Rattle.rb_base.specs.Devices.{device}
use Rattle.rb_journal.proofs.Calls.{begin_sync}
use Rattle.rb_journal.proofs.journal.begin.Goals as goal

pub returns-in_err-write : goal.returns-in_err-write
returns-in_err-write g c =
    let p = err_from_is_err_and c.from_residual.result c.from_residual.ensures.1 in
    let e = c.in_err-write.ensures.after in
    rw p.1 (e.0, e.2)

pub returns : goal.returns
returns g c =
    let at = device g.D.Disk.told g.D.Disk.faults in
    begin_sync c.sync.result (at c.args.disk.now) (at c.write.new.self) (at c.sync.new.self) c.in_ok-write.ensures.after c.sync.ensures.after
