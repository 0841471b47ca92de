use Rattle.std.proofs.Common.{◌≡◌, ◌++◌, drop}
use Rattle.rb_meaning_bytes.specs.formats.Items.{list_numbers}
use Rattle.rb_json.proofs.requests.list_numbers.Given as goal

-- behind the numbers of lists that were found come those of the rest
abbrev pub invariant-loop-value : goal.invariant-loop-value
invariant-loop-value l = (l.numbers ++ list_numbers l.number (drop l.value-index l.values) ≡ list_numbers 0 l.values) × (l.number ≡ l.value-index)
