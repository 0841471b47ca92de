use Rattle.std.proofs.Common.{◌≡◌, ◌++◌, drop}
use Rattle.rb_meaning_split.specs.Client.{input_values}
use Rattle.rb_client.proofs.inputs.values_of.Given as goal

abbrev pub invariant-inputs : goal.invariant-inputs
invariant-inputs l = input_values l.inputs l.fn.frame ≡ l.values ++ input_values (drop l.name-index l.inputs) l.fn.frame
