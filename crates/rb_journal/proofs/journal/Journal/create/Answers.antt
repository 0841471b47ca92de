use Rattle.rb_journal.proofs.Begun.{begun}
use Rattle.rb_journal.proofs.journal.Journal.create.Goals as goal

pub returns-in-Ok-clause-kept : goal.returns-in-Ok-clause-kept
returns-in-Ok-clause-kept g c = λ some. begun g.D.Disk.told g.D.Disk.faults c.args.disk c.begin.new.disk c.requires some c.in-Ok.ensures
