use Rattle.std.proofs.lemmas.Result.{err_from_is_err_and}
use Rattle.rb_base.specs.Devices.{device}
use Rattle.rb_journal.proofs.Openings.{len_fails, reading_after}
use Rattle.rb_journal.proofs.reading.read_journal.Goals as goal

pub returns-in_err-end-clause-after : goal.returns-in_err-end-clause-after
returns-in_err-end-clause-after g c =
    let p = err_from_is_err_and c.from_residual-in_err-end.result c.from_residual-in_err-end.ensures.1 in
    let at = device g.D.Disk.told g.D.Disk.faults in
    rw (p.1, p.2) (len_fails (at c.args.disk.now) (at c.sync.new.self) (at c.len.new.self) c.in_ok-sync.ensures.after c.in_err-end.ensures.after)

pub returns-clause-after : goal.returns-clause-after
returns-clause-after g c =
    let at = device g.D.Disk.told g.D.Disk.faults in
    reading_after c.read_records.result (at c.args.disk.now) (at c.sync.new.self) (at c.len.new.self) (at c.read_records.new.disk) c.in_ok-sync.ensures.after c.in_ok-end.ensures.after c.read_records.ensures.after
