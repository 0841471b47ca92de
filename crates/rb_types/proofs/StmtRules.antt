-- The equations that the check of statements stands on.
use Rattle.rb_trees.proofs.mirror.Stmts.{stmts}
use Rattle.rb_types.proofs.StmtSteps.{stmt_steps}
use Rattle.std.proofs.lemmas.Grind.{common_steps}

pub ruleset stmt_rules = (stmts, stmt_steps, common_steps)
