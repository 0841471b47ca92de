use Rattle.std.proofs.Common.{◌≡◌, ◌++◌, map, drop}
use Rattle.rb_trees.specs.mirror.Declarations.{mirror_class}
use Rattle.rb_trees.specs.printing.Pieces.{spelled}
use Rattle.rb_trees.specs.printing.Programs.{classes_pieces}
use Rattle.rb_trees.proofs.printing.print_classes.Given as goal

-- with the classes that are left, the text is that of all classes
abbrev pub invariant-loop-class : goal.invariant-loop-class
invariant-loop-class l =
    l.into ++ spelled (classes_pieces (map mirror_class (drop l.class-index l.classes))) ≡ l.initial.into ++ spelled (classes_pieces (map mirror_class l.classes))
