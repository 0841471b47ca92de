use Rattle.std.proofs.Common.{◌≡◌, ◌++◌, map, drop}
use Rattle.rb_trees.specs.mirror.Declarations.{mirror_signature}
use Rattle.rb_trees.specs.printing.Pieces.{spelled}
use Rattle.rb_trees.specs.printing.Programs.{signatures_pieces}
use Rattle.rb_trees.proofs.printing.declarations.print_promises.Given as goal

-- with the signatures that are left, the text is that of all signatures
abbrev pub invariant-loop-signature : goal.invariant-loop-signature
invariant-loop-signature l =
    l.into ++ spelled (signatures_pieces l.indent (map mirror_signature (drop l.signature-index l.signatures))) ≡ l.initial.into ++ spelled (signatures_pieces l.indent (map mirror_signature l.signatures))
