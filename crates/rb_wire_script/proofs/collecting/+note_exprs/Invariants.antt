use Rattle.std.proofs.Common.{◌≡◌, drop}
use Rattle.rb_wire_script.specs.Spelled as spelled
use Rattle.rb_wire_script.proofs.collecting.+note_exprs.Given as goal

abbrev pub invariant-note_exprs-loop-e : goal.invariant-note_exprs-loop-e
invariant-note_exprs-loop-e l = spelled.with_exprs l.texts (drop l.e-index l.es) ≡ spelled.with_exprs l.fn.texts l.es
