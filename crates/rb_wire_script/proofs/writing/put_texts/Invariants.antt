use Rattle.std.proofs.Common.{◌≡◌, ◌++◌, drop}
use Rattle.rb_wire_fields.specs.Buffers.{Keeps}
use Rattle.rb_meaning_bytes.specs.formats.ScriptBytes.{texts_bytes}
use Rattle.rb_wire_script.proofs.writing.put_texts.Given as goal

abbrev pub invariant-loop-text : goal.invariant-loop-text
invariant-loop-text l = (l.into.items ++ texts_bytes (drop l.text-index l.texts) ≡ l.fn.into.items ++ texts_bytes l.texts) × Keeps l.fn.into.items l.into.items
