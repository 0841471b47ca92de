use Rattle.std.proofs.Common.{refl}
use Rattle.rb_wire_forest.proofs.forest_walk.raise.Goals as goal

pub returns : goal.returns
returns c es f = refl
