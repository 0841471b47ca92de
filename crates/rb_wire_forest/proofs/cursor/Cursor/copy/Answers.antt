use Rattle.std.proofs.Common.{refl}
use Rattle.rb_wire_forest.specs.Opened.{opened}
use Rattle.rb_wire_forest.proofs.cursor.Cursor.copy.Goals as goal

pub returns : goal.returns
unfolding opened
returns c = refl
