use Rattle.std.proofs.Common.{◌≡◌, drop}
use Rattle.rb_hub.specs.Delivering.{end_in}
use Rattle.rb_hub.proofs.delivering.ended_in.Given as goal

abbrev pub invariant-loop-out : goal.invariant-loop-out
invariant-loop-out l = end_in (drop l.out-index l.outs) ≡ end_in l.outs
