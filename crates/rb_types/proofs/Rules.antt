-- The equations that the checker's functions stand on, in one ruleset.
use Rattle.rb_trees.proofs.mirror.Types.{types}
use Rattle.rb_meaning_types.proofs.TypeForms.{kinds}
use Rattle.rb_meaning_types.proofs.LiteralForms.{literals}
use Rattle.rb_trees.proofs.mirror.Positions.{positions}
use Rattle.std.proofs.lemmas.Grind.{common_steps}

pub ruleset rules = (types, kinds, literals, positions, common_steps)
