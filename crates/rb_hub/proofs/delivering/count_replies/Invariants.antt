use Rattle.std.proofs.Common.{◌≡◌, ◌≤◌, ◌+◌, drop, length}
use Rattle.rb_hub.specs.Serial.{replies_in}
use Rattle.rb_hub.proofs.delivering.count_replies.Given as goal

abbrev pub invariant-loop-out : goal.invariant-loop-out
invariant-loop-out l = record {
  counted : l.count + length (replies_in (drop l.out-index l.outs)) ≡ length (replies_in l.outs);
  few : l.count ≤ l.out-index;
}
