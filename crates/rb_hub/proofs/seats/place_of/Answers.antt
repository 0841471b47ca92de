-- The place is looked for from the front.
use Rattle.std.proofs.lemmas.Bool.{eq-eqb, ne_eqb}
use Rattle.rb_hub.proofs.Places.{begins, goes_on, stands, none_stands}
use Rattle.rb_hub.proofs.seats.place_of.Goals as goal

pub loop-place-init : goal.loop-place-init
loop-place-init c = begins _ _

pub loop-place-preserved : goal.loop-place-preserved
loop-place-preserved c =
    goes_on _ _ _ _ c.loop-place-test.true (ne_eqb _ _ c.if-seats-place.false) c.loop-place.invariant

pub returns-then-seats-place : goal.returns-then-seats-place
returns-then-seats-place c =
    stands _ _ _ _ c.loop-place-test.true (eq-eqb _ _ c.if-seats-place.true) c.loop-place.invariant

pub returns : goal.returns
returns c = none_stands _ _ _ c.loop-place-test.false c.loop-place.invariant
