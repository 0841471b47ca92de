use Rattle.std.proofs.Common.{drop}
use Rattle.rb_base.proofs.Fronts.{HasFront}
use Rattle.rb_hub_lines.specs.Shown.{out_lines}
use Rattle.rb_top.specs.Scene.{output}
use Rattle.rb_top.proofs.hub_run.say_outs.Given as goal

abbrev pub invariant-loop-one : goal.invariant-loop-one
invariant-loop-one g l = HasFront (output g.W.Sink l.initial.out) (output g.W.Sink l.out) (out_lines l.given) (out_lines (drop l.one-index l.given))
