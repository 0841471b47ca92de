use Rattle.std.proofs.Common.{◌≡◌, ◌++◌, map, drop}
use Rattle.rb_trees.specs.mirror.Declarations.{mirror_method}
use Rattle.rb_trees.specs.printing.Pieces.{spelled}
use Rattle.rb_trees.specs.printing.Programs.{methods_pieces}
use Rattle.rb_trees.proofs.printing.declarations.print_methods.Given as goal

-- with the methods that are left, the text is that of all methods
abbrev pub invariant-loop-method : goal.invariant-loop-method
invariant-loop-method l =
    l.into ++ spelled (methods_pieces l.indent (map mirror_method (drop l.method-index l.methods))) ≡ l.initial.into ++ spelled (methods_pieces l.indent (map mirror_method l.methods))
