use Rattle.std.proofs.Common.{◌≡◌, ◌+◌, ◌≤◌}
use Rattle.rb_meaning.specs.Place.{line_of, column_of}
use Rattle.rb_base.proofs.places.place.Given as goal

abbrev pub invariant-loop-byte : goal.invariant-loop-byte
invariant-loop-byte l = record {
  line : l.line ≡ line_of l.before l.byte-index;
  column : l.column ≡ column_of l.before l.byte-index;
  line_bound : l.line ≤ l.byte-index + 1;
  column_bound : l.column ≤ l.byte-index + 1;
}
