use Rattle.std.proofs.Common.{rules}
use Rattle.rb_engine.proofs.engine.call.Goals as goal

pub returns : goal.returns
returns g c = λ names. let h = c.call_own.ensures.runs names in search rules
