use Rattle.std.proofs.Common.{◌≡◌, take}
use Rattle.rb_session.specs.Answering.{IsTypedHost}
use Rattle.rb_journal.specs.Keeping.{AnswersAll}
use Rattle.rb_journal.proofs.answering.answer_all.Given as goal

abbrev pub invariant-loop-request : goal.invariant-loop-request
invariant-loop-request g l = record {
  counted : l.answered ≡ l.request-index;
  answers : AnswersAll g.D.Disk.told g.D.Disk.faults l.fn.kept (take l.request-index l.requests) l.kept;
  ready : IsTypedHost l.kept.host;
  service : l.kept.host.service ≡ l.fn.kept.host.service;
}
