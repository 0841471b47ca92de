use Rattle.std.proofs.Common.{ℕ}
use Rattle.rb_journal.proofs.Openings.{keeps_opened, opened_crash, stopped_crash}
use Rattle.rb_journal.proofs.journal.Journal.open.Goals as goal

pub returns-in-Ok-clause-kept : goal.returns-in-Ok-clause-kept
returns-in-Ok-clause-kept g c = λ payloads stands.
    keeps_opened g.D.Disk.told g.D.Disk.faults c.args.disk c.read_journal.new.disk c.in-Ok.gate c.args.host.now c.read_journal.new.host payloads stands c.in-Ok.ensures.after c.in-Ok.ensures.read

pub returns-in-Ok-clause-any_moment : goal.returns-in-Ok-clause-any_moment
returns-in-Ok-clause-any_moment g c = opened_crash g.D.Disk.told g.D.Disk.faults c.reading_is_an_image.ensures c.args.disk c.read_journal.new.disk c.in-Ok.ensures.after

pub returns-in-Err-clause-any_moment : goal.returns-in-Err-clause-any_moment
returns-in-Err-clause-any_moment g c = stopped_crash g.D.Disk.told g.D.Disk.faults c.reading_is_an_image.ensures ℕ c.args.disk c.read_journal.new.disk c.in-Err.stop c.in-Err.ensures.after
