-- The equations that bindings after a statement stand on.
use Rattle.rb_trees.proofs.mirror.Stmts.{stmts}
use Rattle.std.proofs.lemmas.Grind.{common_steps}

pub ruleset scope_rules = (stmts, common_steps)
