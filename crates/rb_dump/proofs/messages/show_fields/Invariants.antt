use Rattle.std.proofs.Common.{◌≡◌, ◌≤◌, ◌-◌}
use Rattle.rb_dump.proofs.messages.show_fields.Given as goal

abbrev pub invariant-fields : goal.invariant-fields
invariant-fields l = record {
  bytes : l.walk.bytes ≡ l.initial.walk.bytes;
  at : l.walk.at ≤ l.end;
}

abbrev pub decreases-fields : goal.decreases-fields
decreases-fields l = l.end - l.walk.at
