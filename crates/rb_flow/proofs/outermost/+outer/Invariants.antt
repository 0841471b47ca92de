use Rattle.std.proofs.Common.{◌≡◌, drop, map}
use Rattle.rb_trees.specs.mirror.Code.{mirror_stmts}
use Rattle.rb_flow.specs.Begun as begun
use Rattle.rb_flow.specs.Views.{facts}
use Rattle.rb_flow.proofs.outermost.+outer.Given as goal

abbrev pub invariant-collect_stmts-loop-s : goal.invariant-collect_stmts-loop-s
invariant-collect_stmts-loop-s l = begun.block_begun (facts l.x) l.scope (map begun.begun_of l.batches) (mirror_stmts (drop l.s-index l.ss))
    ≡ begun.block_begun (facts l.x) l.fn.scope (map begun.begun_of l.fn.batches) (mirror_stmts l.ss)
