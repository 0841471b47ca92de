use Rattle.std.proofs.Common.{◌≡◌, map, drop}
use Rattle.rb_trees.specs.mirror.Declarations.{mirror_class}
use Rattle.rb_meaning_types.specs.Declarations.{check_classes}
use Rattle.rb_types.specs.Views.{declarations_of}
use Rattle.rb_types.proofs.declarations.check_classes.Given as goal

abbrev pub invariant-loop-item : goal.invariant-loop-item
invariant-loop-item l = check_classes (declarations_of l.d) l.names (map mirror_class (drop l.item-index l.items))
    ≡ check_classes (declarations_of l.d) l.fn.names (map mirror_class l.items)
