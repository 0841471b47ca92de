use Rattle.std.proofs.Common.{◌≡◌, ◌++◌, drop}
use Rattle.rb_meaning_split.specs.Inputs as meant
use Rattle.rb_split.proofs.inputs.list_numbers.Given as goal

abbrev pub invariant-inputs : goal.invariant-inputs
invariant-inputs l = l.numbers ++ meant.list_numbers l.scope l.i (drop l.i l.inputs) ≡ meant.list_numbers l.scope 0 l.inputs
