use Rattle.std.proofs.Common.{◌≡◌, drop}
use Rattle.rb_meaning_bytes.specs.Fits.{values_read}
use Rattle.rb_wire_forest.specs.Walks.{seen}
use Rattle.rb_wire_forest.proofs.walk.read_values.Given as goal

abbrev pub invariant-loop-step : goal.invariant-loop-step
invariant-loop-step l = values_read (drop l.step-index l.takes) (seen l.walk) ≡ values_read l.takes (seen l.from)
