use Rattle.std.proofs.Common.{◌≡◌, ◌-◌, length}
use Rattle.rb_meaning_bytes.specs.formats.Items.{most_items}
use Rattle.rb_wire_script.specs.Parts.{reads, input_values}
use Rattle.rb_wire_script.proofs.Stages.{with_front}
use Rattle.rb_wire_script.proofs.values.input_values.Given as goal

abbrev pub invariant-loop : goal.invariant-loop
invariant-loop l =
    (with_front l.items (reads (input_values l.pool l.room (l.count - l.counter)) l.place) ≡ reads (input_values l.pool most_items l.count) l.from)
    × (length l.items ≡ l.counter)
