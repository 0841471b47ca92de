use Rattle.std.proofs.Common.{◌≡◌, ◌++◌, drop}
use Rattle.rb_top.specs.BatchRefusals.{spaced_places}
use Rattle.rb_top.proofs.batch_refusals.put_places.Given as goal

abbrev pub invariant-loop-at : goal.invariant-loop-at
invariant-loop-at l = l.into.items ++ spaced_places l.places (drop l.at-index l.ps) ≡ l.fn.into.items ++ spaced_places l.places l.ps
