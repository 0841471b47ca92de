use Rattle.std.proofs.Common.{◌≡◌, [], drop, map}
use Rattle.rb_flow.specs.Begun.{begun_of}
use Rattle.rb_flow.specs.Carried as words
use Rattle.rb_flow.specs.Views.{facts}
use Rattle.rb_flow.proofs.loops.carried_loops.Given as goal

abbrev pub invariant-loop-batch : goal.invariant-loop-batch
invariant-loop-batch l = words.batches_noted (facts l.x) l.loops (map begun_of (drop l.batch-index l.batches)) ≡ words.batches_noted (facts l.x) [] (map begun_of l.batches)
