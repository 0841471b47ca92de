-- The equations that the check of expressions stands on.
use Rattle.rb_trees.proofs.mirror.Exprs.{exprs}
use Rattle.rb_trees.proofs.mirror.Positions.{expr_at_tree}
use Rattle.rb_types.proofs.ExprSteps.{expr_steps}
use Rattle.rb_types.proofs.Rows.{rows}
use Rattle.std.proofs.lemmas.Grind.{common_steps}

pub ruleset expr_rules = (exprs, expr_at_tree, expr_steps, rows, common_steps)
