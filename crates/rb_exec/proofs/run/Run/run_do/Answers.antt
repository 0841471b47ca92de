-- The value, which is let go.
use Rattle.std.proofs.Common.{rules}
use Rattle.rb_exec.proofs.Done.{on_value, on_fault, went_on}
use Rattle.rb_exec.proofs.run.Run.run_do.Goals as goal

pub returns-in_err-_value : goal.returns-in_err-_value
returns-in_err-_value c = λ count. on_fault _ c.value.ensures c.in_err-_value.was (search rules)

pub returns : goal.returns
returns c = λ count. on_value _ c.value.ensures c.in_ok-_value.was went_on
