use Rattle.std.proofs.Common.{◌≡◌, drop}
use Rattle.rb_json.specs.Writes.{primitives_data}
use Rattle.rb_json.proofs.Arrays.{before}
use Rattle.rb_json.proofs.writing.values.primitives.Given as goal

abbrev pub invariant-loop-value : goal.invariant-loop-value
invariant-loop-value l = before l.list.items (primitives_data (drop l.value-index l.values)) ≡ primitives_data l.values
