use Rattle.std.proofs.Common.{◌≡◌, take}
use Rattle.rb_engine.proofs.frame.Frame.copy.Given as goal

abbrev pub invariant-loop-name : goal.invariant-loop-name
invariant-loop-name l = l.names ≡ take l.name-index l.self
