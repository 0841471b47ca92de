use Rattle.std.proofs.Common.{◌≡◌, ◌++◌, drop}
use Rattle.rb_wire_fields.specs.Buffers.{Keeps}
use Rattle.rb_wire_script.specs.Spelled as spelled
use Rattle.rb_wire_script.proofs.writing.+put_exprs.Given as goal

abbrev pub invariant-put_exprs-loop-e : goal.invariant-put_exprs-loop-e
invariant-put_exprs-loop-e l = (l.into.items ++ spelled.exprs l.by (drop l.e-index l.es) ≡ l.fn.into.items ++ spelled.exprs l.by l.es) × Keeps l.fn.into.items l.into.items
