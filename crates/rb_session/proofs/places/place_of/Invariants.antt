use Rattle.rb_session.proofs.FirstPlaces.{LiesBehind}
use Rattle.rb_session.proofs.places.place_of.Given as goal

abbrev pub invariant-loop-place : goal.invariant-loop-place
invariant-loop-place g l = LiesBehind l.target l.pairs l.place
