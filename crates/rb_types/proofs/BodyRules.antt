-- The equations that the check of whole bodies, programs and services stands on.
use Rattle.rb_types.proofs.Rules.{rules}
use Rattle.rb_types.proofs.BodySteps.{body_steps}

pub ruleset body_rules = (rules, body_steps)
