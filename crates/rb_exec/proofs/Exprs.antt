-- What the mirror of each form of an expression is, for tactics.
use Rattle.std.proofs.lemmas.Grind.{common_steps}
use Rattle.rb_trees.proofs.mirror.SExprs.{sexprs}

pub ruleset expr_steps = (sexprs, common_steps)
