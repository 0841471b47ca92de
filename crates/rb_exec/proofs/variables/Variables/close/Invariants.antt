use Rattle.std.proofs.Common.{◌≡◌, length}
use Rattle.rb_exec.specs.Bindings.{oldest}
use Rattle.rb_exec.proofs.variables.Variables.close.Given as goal

abbrev pub invariant-later : goal.invariant-later
invariant-later l = oldest l.count l.self ≡ oldest l.count l.fn.self

abbrev pub decreases-later : goal.decreases-later
decreases-later l = length l.self
