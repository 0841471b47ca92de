use Rattle.std.proofs.Common.{◌≡◌, None, drop}
use Rattle.rb_flow.specs.Origins.{least_of}
use Rattle.rb_flow.proofs.origins.least_of.Given as goal

abbrev pub invariant-loop-number : goal.invariant-loop-number
invariant-loop-number l = least_of (drop l.number-index l.numbers) l.least ≡ least_of l.numbers None
