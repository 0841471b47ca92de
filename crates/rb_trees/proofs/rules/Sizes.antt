-- The rules by which sizes are found.
use Rattle.std.proofs.lemmas.Grind.{common_steps}
use Rattle.rb_trees.specs.declared.values.Value.TheViews.{the_lemmas}
use Rattle.rb_trees.proofs.mirror.SExprs.{sexprs}
use Rattle.rb_trees.proofs.mirror.Steps.{steps as mirrored_steps}

pub ruleset values = (the_lemmas, common_steps)

pub ruleset exprs = (sexprs, common_steps)

pub ruleset steps = (mirrored_steps, common_steps)
