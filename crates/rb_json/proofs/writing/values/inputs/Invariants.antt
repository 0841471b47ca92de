use Rattle.std.proofs.Common.{◌≡◌, drop}
use Rattle.rb_json.specs.Writes.{inputs_data}
use Rattle.rb_json.proofs.Arrays.{before}
use Rattle.rb_json.proofs.writing.values.inputs.Given as goal

abbrev pub invariant-loop-value : goal.invariant-loop-value
invariant-loop-value l = before l.list.items (inputs_data (drop l.value-index l.values)) ≡ inputs_data l.values
