-- The equations that the walks stand on.
use Rattle.rb_trees.proofs.mirror.Exprs.{exprs}
use Rattle.rb_trees.proofs.mirror.Stmts.{stmts}
use Rattle.std.proofs.lemmas.Grind.{common_steps}
use Rattle.rb_meaning_types.proofs.TypeForms.{kinds}
use Rattle.rb_trees.proofs.mirror.Positions.{expr_at_tree}
use Rattle.rb_marks.proofs.Positions.{stmt_at_tree}
use Rattle.rb_marks.proofs.Parts.{marked_parts}
use Rattle.rb_marks.proofs.Fronts.{take_front, kept_then, kept_outer, take_kept}

pub ruleset fact_rules = (kinds, expr_at_tree, common_steps)

pub ruleset call_rules = (exprs, kinds, expr_at_tree, common_steps)

pub ruleset expr_rules = (exprs, expr_at_tree, common_steps)

pub ruleset stmt_rules = (stmts, stmt_at_tree, common_steps)

pub ruleset mark_rules = (exprs, expr_at_tree, marked_parts, common_steps)

pub ruleset stmt_mark_rules = (stmts, stmt_at_tree, take_front, kept_then, take_kept, common_steps)

pub ruleset outer_rules = (stmts, kinds, expr_at_tree, take_front, kept_outer, take_kept, common_steps)
