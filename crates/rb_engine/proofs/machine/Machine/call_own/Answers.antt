use Rattle.rb_engine.proofs.Runs.{by_result}
use Rattle.rb_engine.proofs.machine.Machine.call_own.Goals as goal

pub returns-clause-runs : goal.returns-clause-runs
returns-clause-runs g c = λ names. by_result c.step_of.ensures (rw c.in-Ok.ensures at (c.call_method.ensures.runs names))
