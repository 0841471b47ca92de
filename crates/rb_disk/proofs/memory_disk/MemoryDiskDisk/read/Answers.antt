use Rattle.rb_disk.specs.MemoryDisks.{latest_first}
use Rattle.rb_disk.proofs.Noted.{traced_look}
use Rattle.rb_disk.proofs.memory_disk.MemoryDiskDisk.read.Goals as goal

pub returns-then-listed-clause-after : goal.returns-then-listed-clause-after
returns-then-listed-clause-after c =
    let i = c.self.inside in
    traced_look i.first (latest_first i.calls.items) (latest_first c.note-noted.new.calls.items) i.number i.failing i.faults c.saturating_add-self-inside-then-listed.result c.args.self.now
    c.self.view_is c.saturating_add-self-inside-then-listed.ensures c.note-noted.result c.note-noted.ensures
