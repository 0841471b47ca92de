use Rattle.std.proofs.Common.{◌≡◌, ◌++◌, drop}
use Rattle.rb_wire_fields.specs.Buffers.{Keeps}
use Rattle.rb_wire_script.specs.Spelled as spelled
use Rattle.rb_wire_script.proofs.writing.+put_steps.Given as goal

abbrev pub invariant-put_block-loop-step : goal.invariant-put_block-loop-step
invariant-put_block-loop-step l = (l.into.items ++ spelled.steps l.by (drop l.step-index l.block) ≡ l.fn.into.items ++ spelled.block l.by l.block) × Keeps l.fn.into.items l.into.items
