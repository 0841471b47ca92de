-- The text of types.
use Rattle.std.proofs.lemmas.Grind.{common_steps}
use Rattle.rb_trees.proofs.mirror.Types.{types}
use Rattle.rb_trees.proofs.printed.Pieces.{pieces}

pub ruleset printed_types = (types, pieces, common_steps)
