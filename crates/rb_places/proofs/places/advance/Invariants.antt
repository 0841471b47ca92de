use Rattle.std.proofs.Common.{◌≡◌, ◌+◌, ◌≤◌}
use Rattle.rb_meaning.specs.Place.{column_of, line_of}
use Rattle.rb_places.proofs.places.advance.Given as goal

abbrev pub invariant-loop-i : goal.invariant-loop-i
invariant-loop-i l = record {
  line : l.line ≡ line_of l.text l.i;
  column : l.column ≡ column_of l.text l.i;
  line_bound : l.line ≤ l.i + 1;
  column_bound : l.column ≤ l.i + 1;
}
