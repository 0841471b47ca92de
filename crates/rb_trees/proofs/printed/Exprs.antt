-- The text of expressions.
use Rattle.std.proofs.lemmas.Grind.{common_steps}
use Rattle.rb_trees.proofs.mirror.Exprs.{exprs}
use Rattle.rb_trees.proofs.printed.Pieces.{pieces}

pub ruleset printed_exprs = (exprs, pieces, common_steps)
