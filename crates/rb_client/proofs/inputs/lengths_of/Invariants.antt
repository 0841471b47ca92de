use Rattle.std.proofs.Common.{drop}
use Rattle.rb_client.proofs.Measured.{Measuring}
use Rattle.rb_client.proofs.inputs.lengths_of.Given as goal

abbrev pub invariant-inputs : goal.invariant-inputs
invariant-inputs l = Measuring l.inputs (drop l.name-index l.inputs) l.fn.frame l.counts.items l.room
