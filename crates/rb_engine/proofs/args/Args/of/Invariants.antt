use Rattle.std.proofs.Common.{◌≡◌}
use Rattle.rb_engine.proofs.args.Args.of.Given as goal

abbrev pub invariant-loop-value : goal.invariant-loop-value
invariant-loop-value l = l.args ≡ l.yielded
