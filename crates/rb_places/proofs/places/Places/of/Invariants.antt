use Rattle.std.proofs.Common.{◌≡◌, ◌+◌, ◌*◌, length}
use Rattle.rb_places.specs.Noted.{AreNoted, IsPlace}
use Rattle.rb_places.proofs.places.Places.of.Given as goal

abbrev pub invariant-loop-k : goal.invariant-loop-k
invariant-loop-k l = record {
  noted : AreNoted l.text l.noted.items;
  place : IsPlace l.text (l.k * 64) l.place;
  count : length l.noted.items ≡ l.k + 1;
}
