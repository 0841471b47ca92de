use Rattle.rb_disk.specs.MemoryDisks.{latest_first}
use Rattle.rb_disk.proofs.Noted.{traced_look}
use Rattle.rb_disk.proofs.memory_disk.MemoryDiskDisk.sync.Goals as goal

pub returns-then-contains-clause-after : goal.returns-then-contains-clause-after
returns-then-contains-clause-after c =
    let i = c.self.inside in
    traced_look i.first (latest_first i.calls.items) (latest_first c.note.new.calls.items) i.number i.failing i.faults c.saturating_add-self-inside-then-contains.result c.args.self.now c.self.view_is
    c.saturating_add-self-inside-then-contains.ensures c.note.result c.note.ensures
