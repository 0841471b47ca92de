-- The first place is looked for from the front.
use Rattle.std.proofs.Common.{sym, ◌∙◌}
use Rattle.rb_session.proofs.FirstPlaces.{begins, goes_on, stands, none_stands}
use Rattle.rb_session.proofs.places.place_of.Goals as goal

pub loop-place-init : goal.loop-place-init
loop-place-init g c = begins _ _

pub returns-then-is_same : goal.returns-then-is_same
returns-then-is_same g c =
    stands _ _ _ _ c.loop-place-test.true (sym c.is_same.ensures ∙ c.if-is_same.true) c.loop-place.invariant

pub loop-place-preserved : goal.loop-place-preserved
loop-place-preserved g c =
    goes_on _ _ _ _ c.loop-place-test.true (sym c.is_same.ensures ∙ c.if-is_same.false) c.loop-place.invariant

pub returns : goal.returns
returns g c = none_stands _ _ _ c.loop-place-test.false c.loop-place.invariant
