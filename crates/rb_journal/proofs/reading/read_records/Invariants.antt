use Rattle.std.proofs.Common.{◌≡◌, ◌-◌, ◌<◌, ◌≤◌}
use Rattle.rb_base.specs.Devices.{device}
use Rattle.rb_session.specs.Answering.{IsTypedHost}
use Rattle.rb_journal.specs.Readings.{Glanced, WhereLong}
use Rattle.rb_journal.specs.Replays.{Passes}
use Rattle.rb_journal.proofs.reading.read_records.Given as goal

abbrev pub invariant-records : goal.invariant-records
invariant-records g l = record {
  room : l.at < l.end;
  few : l.count ≤ l.at;
  passes : WhereLong (g.D.Disk.told l.fn.disk) l.end (λ bytes. Passes bytes l.count l.gate l.at l.fn.host l.host);
  glanced : Glanced (device g.D.Disk.told g.D.Disk.faults l.fn.disk) (device g.D.Disk.told g.D.Disk.faults l.disk);
  typed : IsTypedHost l.host;
  service : l.host.service ≡ l.fn.host.service;
}

abbrev pub decreases-records : goal.decreases-records
decreases-records g l = l.end - l.at
