use Rattle.rb_hub.proofs.Replied.{SoFar}
use Rattle.rb_hub.proofs.replying.answer_all.Given as goal

abbrev pub invariant-loop-payload : goal.invariant-loop-payload
invariant-loop-payload g l = record {
  so_far : SoFar g.A.Answers l.initial.answers l.answers l.number l.payload-index l.payloads l.initial.outs l.outs;
  ready : g.A.Answers.ready l.answers;
}
