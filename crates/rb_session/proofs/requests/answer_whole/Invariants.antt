use Rattle.std.proofs.Common.{◌≡◌, ◌-◌, length}
use Rattle.rb_session.specs.Answering.{IsTypedHost}
use Rattle.rb_session.proofs.Streamed.{SoFar}
use Rattle.rb_session.proofs.requests.answer_whole.Given as goal

abbrev pub invariant-whole : goal.invariant-whole
invariant-whole l = record {
  so_far : SoFar l.initial.host l.host l.bytes l.most l.at l.requests l.initial.out.items l.out.items;
  typed : IsTypedHost l.host;
  service : l.host.service ≡ l.initial.host.service;
}

abbrev pub decreases-whole : goal.decreases-whole
decreases-whole l = length l.bytes - l.at
