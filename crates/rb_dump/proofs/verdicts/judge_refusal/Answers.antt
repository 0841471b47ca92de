-- What isn't read as a refusal spells none.
use Rattle.std.proofs.Common.{refl}
use Rattle.rb_dump.proofs.verdicts.judge_refusal.Goals as goal

pub returns-in-None-clause-told : goal.returns-in-None-clause-told
returns-in-None-clause-told c = (refl, λ h. absurd (cc (c.in-None.ensures.only h.0 h.1 h.2)))

pub returns-in-None-clause-taken : goal.returns-in-None-clause-taken
returns-in-None-clause-taken c h = absurd (cc (c.in-None.ensures.only h.0 h.1 h.2))
