use Rattle.rb_wire_forest.proofs.Appended.{appends_refusal}
use Rattle.rb_wire_forest.proofs.refusals.encode_refusal.Goals as goal

pub returns-in-Ok-clause-ok : goal.returns-in-Ok-clause-ok
returns-in-Ok-clause-ok c = appends_refusal c.args.version _ _ c.args.number c.args.at c.requires c.ranges.at.fits c.in-Ok.ensures.ok
