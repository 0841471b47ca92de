use Rattle.std.proofs.Common.{◌+◌, [], ◌∷◌, ◌++◌}
use Rattle.std.proofs.lemmas.Result.{err_from_is_err_and}
use Rattle.rb_disk.specs.Images.{wrote, synced}
use Rattle.rb_base.specs.Devices.{device}
use Rattle.rb_journal.specs.Appends.{at_record, at_first_sync, at_gate}
use Rattle.rb_journal.proofs.Calls.{joined, joined_failed, last_sync}
use Rattle.rb_journal.proofs.journal.write_text.Goals as goal

pub returns-in_err-write : goal.returns-in_err-write
returns-in_err-write g c =
    let p = err_from_is_err_and c.from_residual.result c.from_residual.ensures.1 in
    let e = c.in_err-write.ensures.after in
    rw p.1 (e.0, at_record e.0 e.1, e.2)

pub returns-in_err-sync : goal.returns-in_err-sync
returns-in_err-sync g c =
    let p = err_from_is_err_and c.from_residual-in_err-sync.result c.from_residual-in_err-sync.ensures.1 in
    let at = device g.D.Disk.told g.D.Disk.faults in
    let e = c.in_err-sync.ensures.after in
    let w = wrote (c.args.gate + 1) c.args.text.now in
    rw p.1 (e.0 ++ w ∷ [], at_first_sync e.0 e.1, joined_failed e.0 (w ∷ []) (at c.args.disk.now) (at c.write.new.self) (at c.sync.new.self) c.in_ok-write.ensures.after e.2)

pub returns-in_err-write-2 : goal.returns-in_err-write-2
returns-in_err-write-2 g c =
    let p = err_from_is_err_and c.from_residual-in_err-write-2.result c.from_residual-in_err-write-2.ensures.1 in
    let at = device g.D.Disk.told g.D.Disk.faults in
    let e = c.in_err-write-2.ensures.after in
    let w = wrote (c.args.gate + 1) c.args.text.now in
    let first = joined (synced ∷ []) (w ∷ []) (at c.args.disk.now) (at c.write.new.self) (at c.sync.new.self) c.in_ok-write.ensures.after c.in_ok-sync.ensures.after in
    rw p.1 (e.0 ++ synced ∷ w ∷ [], at_gate e.0 e.1, joined_failed e.0 (synced ∷ w ∷ []) (at c.args.disk.now) (at c.sync.new.self) (at c.write-2.new.self) first e.2)

pub returns : goal.returns
returns g c =
    let at = device g.D.Disk.told g.D.Disk.faults in
    let w = wrote (c.args.gate + 1) c.args.text.now in
    let o = wrote c.args.gate (1 ∷ []) in
    let first = joined (synced ∷ []) (w ∷ []) (at c.args.disk.now) (at c.write.new.self) (at c.sync.new.self) c.in_ok-write.ensures.after c.in_ok-sync.ensures.after in
    let second = joined (o ∷ []) (synced ∷ w ∷ []) (at c.args.disk.now) (at c.sync.new.self) (at c.write-2.new.self) first c.in_ok-write-2.ensures.after in
    last_sync c.args.gate c.args.text.now c.sync-2.result (at c.args.disk.now) (at c.write-2.new.self) (at c.sync-2.new.self) second c.sync-2.ensures.after
