use Rattle.std.proofs.Common.{take}
use Rattle.rb_journal.specs.Journals.{KeepsMore, LeavesFronts}
use Rattle.rb_journal.proofs.runs.append_all.Given as goal

abbrev pub invariant-loop-payload : goal.invariant-loop-payload
invariant-loop-payload g l = record {
  kept : KeepsMore g.D.Disk.told l.fn.journal (take l.payload-index l.payloads) l.journal;
  any_moment : LeavesFronts g.D.Disk.told l.fn.journal l.payloads l.journal;
}
