-- The equations that walks over statements stand on.
use Rattle.rb_trees.proofs.mirror.Stmts.{stmts}
use Rattle.std.proofs.lemmas.Grind.{common_steps}

pub ruleset stmt_trees = (stmts, common_steps)
