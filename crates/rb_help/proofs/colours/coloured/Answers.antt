use Rattle.std.proofs.Common.{refl}
use Rattle.rb_help.proofs.Painting.{paints-line}
use Rattle.rb_help.proofs.colours.coloured.Goals as goal

pub loop-rest-preserved : goal.loop-rest-preserved
loop-rest-preserved c =
    paints-line c.args.text.now c.loop-rest.shown c.loop-rest.rest.now c.split_at.result.0.now c.split_at.result.1.now c.split_at-in-loop-rest.result.0.now c.split_at-in-loop-rest.result.1.now c.as_slice.result.now c.extend_from_slice-in-loop-rest.new.self c.loop-rest.invariant c.split_at.ensures.by_index.0 c.split_at-in-loop-rest.ensures.by_index.0 (rw c.as_slice.ensures c.in_ok-painted.ensures) (rw (c.in_ok-extend_from_slice-2.ensures.ok, c.in_ok-extend_from_slice.ensures.ok) refl)
