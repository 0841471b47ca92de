use Rattle.std.proofs.Common.{◌≡◌, ◌+◌, drop}
use Rattle.rb_trees.specs.mirror.Code.{mirror_stmts}
use Rattle.rb_meaning_types.specs.Batches.{batches_in}
use Rattle.rb_types.proofs.batches.+batches.Given as goal

abbrev pub invariant-count_in-loop-s : goal.invariant-count_in-loop-s
invariant-count_in-loop-s l = l.sum + batches_in (mirror_stmts (drop l.s-index l.ss)) ≡ l.fn.count + batches_in (mirror_stmts l.ss)
