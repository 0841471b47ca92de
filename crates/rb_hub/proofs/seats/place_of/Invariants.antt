use Rattle.rb_hub.proofs.Places.{LiesBehind}
use Rattle.rb_hub.proofs.seats.place_of.Given as goal

abbrev pub invariant-loop-place : goal.invariant-loop-place
invariant-loop-place l = LiesBehind l.number l.seats l.place
