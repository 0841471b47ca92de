use Rattle.std.proofs.Common.{◌≡◌, drop, map}
use Rattle.rb_trees.specs.mirror.Declarations.{mirror_method}
use Rattle.rb_flow.specs.Begun as begun
use Rattle.rb_flow.specs.Views.{facts}
use Rattle.rb_flow.proofs.outermost.collect_methods.Given as goal

abbrev pub invariant-loop-m : goal.invariant-loop-m
invariant-loop-m l = begun.methods_begun (facts l.x) (map begun.begun_of l.batches) (map mirror_method (drop l.m-index l.methods))
    ≡ begun.methods_begun (facts l.x) (map begun.begun_of l.fn.batches) (map mirror_method l.methods)
