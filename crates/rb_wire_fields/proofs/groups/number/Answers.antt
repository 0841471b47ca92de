use Rattle.std.proofs.Common.{arith}
use Rattle.std.proofs.lemmas.Grind.{common_steps}
use Rattle.rb_wire_fields.proofs.Grouping.{within_one}
use Rattle.rb_wire_fields.proofs.groups.number.Goals as goal

pub returns-in-len1-up-clause-below : goal.returns-in-len1-up-clause-below
returns-in-len1-up-clause-below c =
    within_one c.args.last c.args.more _ (omega (arith, c.requires.some)) c.requires.more (grind (arith, common_steps))
