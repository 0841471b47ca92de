use Rattle.rb_journal.proofs.AnsweredRuns.{keeps_accepted, leaves_answered, leaves_at_stop}
use Rattle.rb_journal.proofs.laws.answered_requests_are_kept.Goals as goal

pub returns-clause-keeps : goal.returns-clause-keeps
returns-clause-keeps g c = λ before after requests steps. keeps_accepted g.D.Disk.told g.D.Disk.faults requests before after steps

pub returns-clause-any_moment : goal.returns-clause-any_moment
returns-clause-any_moment g c = λ before after requests steps payloads k n le. leaves_answered g.D.Disk.told g.D.Disk.faults requests before after payloads k steps n

pub returns-clause-at_stop : goal.returns-clause-at_stop
returns-clause-at_stop g c = λ before after requests answered stop run payloads k n le. leaves_at_stop g.D.Disk.told g.D.Disk.faults requests answered stop before after payloads k run n le
