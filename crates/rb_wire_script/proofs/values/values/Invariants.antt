use Rattle.std.proofs.Common.{◌≡◌, ◌-◌}
use Rattle.rb_wire_script.specs.Parts.{reads, values}
use Rattle.rb_wire_script.proofs.Stages.{with_front}
use Rattle.rb_wire_script.proofs.values.values.Given as goal

abbrev pub invariant-loop : goal.invariant-loop
invariant-loop l = with_front l.items (reads (values l.pool (l.count - l.counter)) l.place) ≡ reads (values l.pool l.count) l.from
