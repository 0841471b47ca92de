use Rattle.rb_wire_forest.proofs.Appended.{appends}
use Rattle.rb_wire_forest.proofs.encoding.encode_forest.Goals as goal

pub returns-in-Ok-clause-ok : goal.returns-in-Ok-clause-ok
returns-in-Ok-clause-ok c = appends c.args.version _ _ _ c.requires c.in-Ok.ensures.ok
