use Rattle.std.proofs.Common.{◌≡◌, ◌++◌, drop}
use Rattle.rb_meaning_bytes.specs.formats.Items.{list_numbers}
use Rattle.rb_wire_script.proofs.values.list_numbers.Given as goal

abbrev pub invariant-loop-value : goal.invariant-loop-value
invariant-loop-value l = (l.number ≡ l.value-index) × (l.numbers ++ list_numbers l.number (drop l.value-index l.values) ≡ list_numbers 0 l.values)
