use Rattle.std.proofs.Common.{◌≡◌, drop, map}
use Rattle.rb_trees.specs.mirror.Declarations.{mirror_class}
use Rattle.rb_flow.specs.Begun as begun
use Rattle.rb_flow.specs.Views.{facts}
use Rattle.rb_flow.proofs.outermost.collect_classes.Given as goal

abbrev pub invariant-loop-class : goal.invariant-loop-class
invariant-loop-class l = begun.classes_begun (facts l.x) (map begun.begun_of l.batches) (map mirror_class (drop l.class-index l.classes))
    ≡ begun.classes_begun (facts l.x) (map begun.begun_of l.fn.batches) (map mirror_class l.classes)
