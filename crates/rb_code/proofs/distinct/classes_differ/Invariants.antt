use Rattle.std.proofs.Common.{◌≡◌, map, take}
use Rattle.rb_trees.specs.mirror.Declarations.{mirror_class}
use Rattle.rb_code.specs.Differ.{ClassesDiffer}
use Rattle.rb_code.specs.Places.{names_of_classes}
use Rattle.rb_code.proofs.distinct.classes_differ.Given as goal

abbrev pub invariant-loop-class : goal.invariant-loop-class
invariant-loop-class l = (l.names ≡ names_of_classes (take l.class-index l.classes)) × ClassesDiffer (map mirror_class (take l.class-index l.classes))
