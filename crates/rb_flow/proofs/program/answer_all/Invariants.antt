use Rattle.std.proofs.Common.{map, vec_len}
use Rattle.rb_flow.specs.Begun.{begun_of}
use Rattle.rb_flow.specs.Program.{TakenSo}
use Rattle.rb_flow.specs.Views.{facts}
use Rattle.rb_flow.proofs.program.answer_all.Given as goal

abbrev pub invariant-loop-last : goal.invariant-loop-last
invariant-loop-last l = TakenSo (facts l.x) (map begun_of l.fn.batches.items) (map begun_of l.rest.items) l.first

abbrev pub decreases-loop-last : goal.decreases-loop-last
decreases-loop-last l = vec_len l.rest
