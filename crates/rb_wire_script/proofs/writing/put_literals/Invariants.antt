use Rattle.std.proofs.Common.{◌≡◌, ◌++◌, drop}
use Rattle.rb_wire_fields.specs.Buffers.{Keeps}
use Rattle.rb_wire_script.specs.Spelled as spelled
use Rattle.rb_wire_script.proofs.writing.put_literals.Given as goal

abbrev pub invariant-loop-value : goal.invariant-loop-value
invariant-loop-value l = (l.into.items ++ spelled.literals l.by (drop l.value-index l.values) ≡ l.fn.into.items ++ spelled.literals l.by l.values) × Keeps l.fn.into.items l.into.items
