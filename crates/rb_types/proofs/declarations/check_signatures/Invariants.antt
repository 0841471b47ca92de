use Rattle.std.proofs.Common.{◌≡◌, [], map, drop}
use Rattle.rb_trees.specs.mirror.Declarations.{mirror_signature}
use Rattle.rb_meaning_types.specs.Declarations.{check_signatures}
use Rattle.rb_types.specs.Views.{declarations_of}
use Rattle.rb_types.proofs.declarations.check_signatures.Given as goal

abbrev pub invariant-loop-s : goal.invariant-loop-s
invariant-loop-s l = check_signatures (declarations_of l.d) l.names (map mirror_signature (drop l.s-index l.signatures))
    ≡ check_signatures (declarations_of l.d) [] (map mirror_signature l.signatures)
