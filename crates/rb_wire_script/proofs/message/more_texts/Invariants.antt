use Rattle.std.proofs.Common.{◌≡◌, ◌-◌, []}
use Rattle.rb_meaning_bytes.specs.formats.Reading.{read}
use Rattle.rb_meaning_bytes.specs.formats.ScriptMessages.{more_texts}
use Rattle.rb_wire_script.proofs.message.more_texts.Given as goal

abbrev pub invariant-loop : goal.invariant-loop
invariant-loop l = read (more_texts (l.count - l.counter) l.texts) l.rest ≡ read (more_texts l.count []) l.bytes
