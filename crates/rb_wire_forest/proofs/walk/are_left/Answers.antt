use Rattle.std.proofs.Common.{arith}
use Rattle.rb_wire_forest.proofs.Walked.{some_left}
use Rattle.rb_wire_forest.proofs.walk.are_left.Goals as goal

pub returns-in-len1-up : goal.returns-in-len1-up
returns-in-len1-up c = some_left c.args.entries.now (omega arith)
