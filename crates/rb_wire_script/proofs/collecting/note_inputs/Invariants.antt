use Rattle.std.proofs.Common.{◌≡◌, drop}
use Rattle.rb_meaning_bytes.specs.formats.Pools.{with_texts}
use Rattle.rb_meaning_bytes.specs.formats.ScriptBytes.{inputs_texts}
use Rattle.rb_wire_script.proofs.collecting.note_inputs.Given as goal

abbrev pub invariant-loop-value : goal.invariant-loop-value
invariant-loop-value l = with_texts l.texts (inputs_texts (drop l.value-index l.values)) ≡ with_texts l.fn.texts (inputs_texts l.values)
