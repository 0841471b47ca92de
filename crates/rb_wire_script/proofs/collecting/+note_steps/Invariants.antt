use Rattle.std.proofs.Common.{◌≡◌, drop}
use Rattle.rb_wire_script.specs.Spelled as spelled
use Rattle.rb_wire_script.proofs.collecting.+note_steps.Given as goal

abbrev pub invariant-note_steps-loop-step : goal.invariant-note_steps-loop-step
invariant-note_steps-loop-step l = spelled.with_steps l.texts (drop l.step-index l.steps) ≡ spelled.with_steps l.fn.texts l.steps
