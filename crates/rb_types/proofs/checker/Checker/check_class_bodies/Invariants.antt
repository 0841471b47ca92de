use Rattle.std.proofs.Common.{◌≡◌, map, drop}
use Rattle.rb_trees.specs.mirror.Declarations.{mirror_class}
use Rattle.rb_types.specs.Steps.{classes}
use Rattle.rb_types.specs.Views.{declarations_of, notes_of}
use Rattle.rb_types.proofs.checker.Checker.check_class_bodies.Given as goal

abbrev pub invariant-loop-item : goal.invariant-loop-item
invariant-loop-item l = classes (declarations_of l.d) (map mirror_class (drop l.item-index l.items)) (notes_of l.self.notes)
    ≡ classes (declarations_of l.d) (map mirror_class l.items) (notes_of l.fn.self.notes)
