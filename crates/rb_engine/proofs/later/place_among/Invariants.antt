use Rattle.std.proofs.Common.{◌≡◌, None, take}
use Rattle.rb_engine.specs.Places.{first_place}
use Rattle.rb_engine.proofs.later.place_among.Given as goal

abbrev pub invariant-loop-place : goal.invariant-loop-place
invariant-loop-place l = first_place (take l.place l.names) l.name ≡ None
