-- A call's result, with its kinds of end apart.
use Rattle.rb_engine.proofs.Runs.{by_result}

pub ruleset wrapped = (by_result)
