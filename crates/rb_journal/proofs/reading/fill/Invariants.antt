use Rattle.std.proofs.Common.{◌-◌, ◌≤◌, length}
use Rattle.rb_base.specs.Devices.{device}
use Rattle.rb_disk.specs.Images.{IsPart}
use Rattle.rb_journal.specs.Readings.{Glanced}
use Rattle.rb_journal.proofs.reading.fill.Given as goal

abbrev pub invariant-reads : goal.invariant-reads
invariant-reads g l = record {
  within : l.done ≤ length l.into;
  part : IsPart l.at l.done l.into (g.D.Disk.told l.fn.disk);
  glanced : Glanced (device g.D.Disk.told g.D.Disk.faults l.fn.disk) (device g.D.Disk.told g.D.Disk.faults l.disk);
}

abbrev pub decreases-reads : goal.decreases-reads
decreases-reads g l = length l.into - l.done
