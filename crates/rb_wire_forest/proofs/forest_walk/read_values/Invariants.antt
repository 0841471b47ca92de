use Rattle.std.proofs.Common.{drop}
use Rattle.rb_meaning_bytes.specs.Fits.{values_read}
use Rattle.rb_wire_forest.specs.Opened.{opened}
use Rattle.rb_wire_forest.proofs.ForestWalked.{SoFar}
use Rattle.rb_wire_forest.proofs.forest_walk.read_values.Given as goal

abbrev pub invariant-loop-step : goal.invariant-loop-step
invariant-loop-step l = SoFar (values_read (drop l.step-index l.takes)) (values_read l.takes) (opened l.fn.cursor) l.fn.from (opened l.cursor) l.progress
