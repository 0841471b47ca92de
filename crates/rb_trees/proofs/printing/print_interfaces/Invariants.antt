use Rattle.std.proofs.Common.{◌≡◌, ◌++◌, map, drop}
use Rattle.rb_trees.specs.mirror.Declarations.{mirror_interface}
use Rattle.rb_trees.specs.printing.Pieces.{spelled}
use Rattle.rb_trees.specs.printing.Programs.{interfaces_pieces}
use Rattle.rb_trees.proofs.printing.print_interfaces.Given as goal

-- with the interfaces that are left, the text is that of all interfaces
abbrev pub invariant-loop-interface : goal.invariant-loop-interface
invariant-loop-interface l =
    l.into ++ spelled (interfaces_pieces (map mirror_interface (drop l.interface-index l.interfaces))) ≡ l.initial.into ++ spelled (interfaces_pieces (map mirror_interface l.interfaces))
