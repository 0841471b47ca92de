use Rattle.rb_engine.proofs.Runs.{by_result}
use Rattle.rb_engine.proofs.machine.Machine.call_own_found.Goals as goal

pub returns-clause-runs : goal.returns-clause-runs
returns-clause-runs g c = λ names. by_result c.step_of.ensures (rw c.in-Ok.ensures at (c.run_call.ensures.runs names))
