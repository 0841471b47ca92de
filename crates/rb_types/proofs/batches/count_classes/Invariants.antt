use Rattle.std.proofs.Common.{◌≡◌, ◌+◌, drop, map}
use Rattle.rb_trees.specs.mirror.Declarations.{mirror_class}
use Rattle.rb_meaning_types.specs.Batches.{class_batches}
use Rattle.rb_types.proofs.batches.count_classes.Given as goal

abbrev pub invariant-loop-class : goal.invariant-loop-class
invariant-loop-class l = l.sum + class_batches (map mirror_class (drop l.class-index l.classes)) ≡ l.fn.count + class_batches (map mirror_class l.classes)
