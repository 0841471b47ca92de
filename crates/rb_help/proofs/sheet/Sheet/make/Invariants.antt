use Rattle.std.proofs.Common.{◌≡◌, ◌+◌, ◌*◌, length, take}
use Rattle.std.specs.List.{count_by}
use Rattle.rb_help.specs.Headings.{AreCounted, begins_character}
use Rattle.rb_help.proofs.sheet.Sheet.make.Given as goal

abbrev pub invariant-loop-k : goal.invariant-loop-k
invariant-loop-k l = record {
  counted : AreCounted l.text l.counted.items;
  here : l.count ≡ count_by begins_character (take (l.k * 64) l.text);
  all : length l.counted.items ≡ l.k + 1;
}
